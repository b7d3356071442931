-- `take_by` meets its contract: in each arm, what the call that it makes ensures.
use Rattle.list_calls.specs.Asked.{take_by}
use Rattle.list_calls.proofs.writes.take_by.Goals as goal

pub returns-in-Pop : goal.returns-in-Pop
unfolding take_by
returns-in-Pop c = rw c.in-Pop.is c.pop.ensures

pub returns-in-Remove : goal.returns-in-Remove
unfolding take_by
returns-in-Remove c = rw c.in-Remove.is c.remove.ensures
