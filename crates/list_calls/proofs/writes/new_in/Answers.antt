-- `new_in` meets its contract: what `store` ensures of the empty list.
use Rattle.list_calls.proofs.writes.new_in.Goals as goal

pub returns : goal.returns
returns c = rw c.new.ensures at c.store.ensures.0
