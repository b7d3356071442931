-- `line_to_byte` meets its contract.
use Rattle.conversions.proofs.line_to_byte.Goals as goal

pub returns : goal.returns
returns c = c.convert.ensures
