-- `edit_by` meets its contract: in each arm, what the call that it makes ensures.
use Rattle.list_calls.specs.Asked.{edit_by}
use Rattle.list_calls.proofs.writes.edit_by.Goals as goal

pub returns-in-Push : goal.returns-in-Push
unfolding edit_by
returns-in-Push c = rw c.in-Push.is c.push.ensures

pub returns-in-Insert : goal.returns-in-Insert
unfolding edit_by
returns-in-Insert c = rw c.in-Insert.is c.insert.ensures
