-- `utf16_cu_to_char` meets its contract.
use Rattle.conversions.proofs.utf16_cu_to_char.Goals as goal

pub returns : goal.returns
returns c = c.convert.ensures
