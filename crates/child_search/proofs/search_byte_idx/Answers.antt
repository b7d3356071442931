-- `search_byte_idx` meets its contract.
use Rattle.child_search.proofs.search_byte_idx.Goals as goal

pub returns : goal.returns
returns c = c.search_by.ensures.0
