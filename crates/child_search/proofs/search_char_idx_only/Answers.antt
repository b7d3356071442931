-- `search_char_idx_only` meets its contract.
use Rattle.answer.proofs.Opened.{raised}
use Rattle.child_search.proofs.Rules.{only-refused, only-found}
use Rattle.child_search.proofs.search_char_idx_only.Goals as goal

pub returns-in_err-i : goal.returns-in_err-i
returns-in_err-i c = rw (raised c.from_residual.ensures.1) (only-refused c.search_by.result _ c.search_by.ensures.0 _ c.in_err-i.was)

pub returns : goal.returns
returns c = only-found c.search_by.result _ c.search_by.ensures.0 _ _ c.in_ok-i.was
