-- `search_char_idx` meets its contract.
use Rattle.child_search.proofs.search_char_idx.Goals as goal

pub returns : goal.returns
returns c = c.search_by.ensures.0
