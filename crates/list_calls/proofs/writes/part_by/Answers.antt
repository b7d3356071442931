-- `part_by` meets its contract: in each arm, what the call that it makes ensures.
use Rattle.list_calls.specs.Asked.{part_by}
use Rattle.list_calls.proofs.writes.part_by.Goals as goal

pub returns-in-PushSplit : goal.returns-in-PushSplit
unfolding part_by
returns-in-PushSplit c = rw c.in-PushSplit.is c.push_split.ensures

pub returns-in-InsertSplit : goal.returns-in-InsertSplit
unfolding part_by
returns-in-InsertSplit c = rw c.in-InsertSplit.is c.insert_split.ensures

pub returns-in-SplitOff : goal.returns-in-SplitOff
unfolding part_by
returns-in-SplitOff c = rw c.in-SplitOff.is c.split_off.ensures
