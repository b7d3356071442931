-- `ordered` meets its contract: as it was where there is a slot, else 12 or 2.
use Rattle.list_calls.proofs.Tests.{placed-as-was, placed-lost, placed-twelve, placed-other}
use borrow.Author.Tests.{not-true, not-false}
use Rattle.list_calls.proofs.writes.ordered.Goals as goal

pub returns-then-not-lost : goal.returns-then-not-lost
returns-then-not-lost c = placed-as-was c.args.v c.args.lost (not-true _ c.if-not-lost.true-raw)

pub returns-then-from-eq12 : goal.returns-then-from-eq12
returns-then-from-eq12 c = placed-twelve c.args.v c.args.lost (not-false _ c.if-not-lost.false-raw) _ _ c.in-Err.is c.from.ensures c.if-from-eq12.true

pub returns-in-Ok : goal.returns-in-Ok
returns-in-Ok c = placed-lost c.args.v c.args.lost (not-false _ c.if-not-lost.false-raw) c.in-Ok.is

pub returns-else-from-eq12 : goal.returns-else-from-eq12
returns-else-from-eq12 c = placed-other c.args.v c.args.lost (not-false _ c.if-not-lost.false-raw) _ _ c.in-Err.is c.from.ensures c.if-from-eq12.false
