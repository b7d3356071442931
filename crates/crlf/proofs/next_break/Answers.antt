-- `crlf::next_break` meets its contract: refused past the end, else what `break_above` ensures.
use Rattle.answer.proofs.Opened.{raised}
use Rattle.crlf.proofs.Laws.{at_in, index_in, index-refused}
use Rattle.crlf.proofs.next_break.Goals as goal

pub returns-in_err-within : goal.returns-in_err-within
returns-in_err-within c = rw (raised c.from_residual.ensures.1) (index-refused _ _ _ _ c.within.ensures _ _ c.in_err-within.was)

pub break_above-requires : goal.break_above-requires
break_above-requires c = index_in _ _ _ _ c.within.ensures _ c.in_ok-within.was

pub returns : goal.returns
returns c = at_in _ _ _ _ (index_in _ _ _ _ c.within.ensures _ c.in_ok-within.was) c.break_above.ensures
