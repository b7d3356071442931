-- `ask` meets its contract: in each arm, what the call that it makes ensures.
use Rattle.list_calls.specs.Asked.{asked}
use Rattle.list_calls.proofs.Opened.{wrote-replied, read-replied}
use Rattle.list_calls.proofs.ask.Goals as goal

pub returns-in-New : goal.returns-in-New
unfolding asked
returns-in-New c = rw c.in-New.is (wrote-replied _ _ _ _ _ _ c.new_in.ensures c.of_verdict.ensures)

pub returns-in-Reads : goal.returns-in-Reads
unfolding asked
returns-in-Reads c = rw c.in-Reads.is (read-replied _ _ _ c.read_in.ensures)

pub returns-in-Edits : goal.returns-in-Edits
unfolding asked
returns-in-Edits c = rw c.in-Edits.is (wrote-replied _ _ _ _ _ _ c.edit_in.ensures c.of_verdict-in-Edits.ensures)

pub returns-in-Takes : goal.returns-in-Takes
unfolding asked
returns-in-Takes c = rw c.in-Takes.is c.take_in.ensures

pub returns-in-Parts : goal.returns-in-Parts
unfolding asked
returns-in-Parts c = rw c.in-Parts.is (wrote-replied _ _ _ _ _ _ c.part_in.ensures c.of_verdict-in-Parts.ensures)

pub returns-in-Deeps : goal.returns-in-Deeps
unfolding asked
returns-in-Deeps c = rw c.in-Deeps.is c.deep_in.ensures

pub returns-in-DistributeWith : goal.returns-in-DistributeWith
unfolding asked
returns-in-DistributeWith c = rw c.in-DistributeWith.is (wrote-replied _ _ _ _ _ _ c.distribute_in.ensures c.of_verdict-in-DistributeWith.ensures)
