-- `ends_last` meets its contract: the test as a number.
use native.Mathlib.Omega.{arith}
use Rattle.str_indices.proofs.Laws.{test-is}
use Rattle.lines_crlf.proofs.Laws.{ends-alone}
use Rattle.lines_crlf.proofs.ends_last.Goals as goal

pub returns : goal.returns
returns c = let s = test-is _ _ (ends-alone c.args.b) in (omega arith, omega arith)
