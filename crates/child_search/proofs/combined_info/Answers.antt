-- `combined_info` meets its contract.
use native.Mathlib.Omega.{arith}
use Rattle.child_search.proofs.Rules.{combined-long, combined-done}
use Rattle.child_search.proofs.combined_info.Goals as goal

pub returns-then-list-gt-MAX_LEN : goal.returns-then-list-gt-MAX_LEN
returns-then-list-gt-MAX_LEN c = combined-long c.args.list (omega arith)

pub returns : goal.returns
returns c = combined-done c.args.list c.sum_of.result (omega arith) c.sum_of.ensures.0
