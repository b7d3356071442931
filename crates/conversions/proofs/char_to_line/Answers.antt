-- `char_to_line` meets its contract.
use Rattle.conversions.proofs.char_to_line.Goals as goal

pub returns : goal.returns
returns c = c.convert.ensures
