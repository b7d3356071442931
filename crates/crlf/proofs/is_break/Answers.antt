-- `crlf::is_break` meets its contract: refused past the end, else what `breaks_at` ensures.
use Rattle.answer.proofs.Opened.{raised}
use Rattle.crlf.proofs.Laws.{at_in, index_in, index-refused}
use Rattle.crlf.proofs.is_break.Goals as goal

pub returns-in_err-within : goal.returns-in_err-within
returns-in_err-within c = rw (raised c.from_residual.ensures.1) (index-refused _ _ _ _ c.within.ensures _ _ c.in_err-within.was)

pub breaks_at-requires : goal.breaks_at-requires
breaks_at-requires c = index_in _ _ _ _ c.within.ensures _ c.in_ok-within.was

pub returns : goal.returns
returns c = at_in _ _ _ _ (index_in _ _ _ _ c.within.ensures _ c.in_ok-within.was) c.breaks_at.ensures
