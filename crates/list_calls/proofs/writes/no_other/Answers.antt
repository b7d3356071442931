-- `no_other` meets its contract: the two tests, in their order.
use Rattle.list_calls.proofs.Tests.{other-same, other-out, other-in}
use Rattle.list_calls.proofs.writes.no_other.Goals as goal

pub returns-then-slot-other : goal.returns-then-slot-other
returns-then-slot-other c = other-same c.args.m.now _ _ c.if-slot-other.true

pub returns-in-Ok : goal.returns-in-Ok
returns-in-Ok c = other-in _ _ _ _ c.region_start.ensures _ c.if-slot-other.false c.in-Ok.is

pub returns-in-Err : goal.returns-in-Err
returns-in-Err c = other-out _ _ _ _ c.region_start.ensures _ c.in-Err.is
