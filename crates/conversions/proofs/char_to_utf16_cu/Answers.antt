-- `char_to_utf16_cu` meets its contract.
use Rattle.conversions.proofs.char_to_utf16_cu.Goals as goal

pub returns : goal.returns
returns c = c.convert.ensures
