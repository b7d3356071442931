-- `text_calls::ask_by` meets its contract: the answer is that of the call which the number names.
use Rattle.answer.proofs.Opened.{raised}
use Rattle.text_calls.proofs.Laws.{no-call, by_number}
use Rattle.text_calls.proofs.ask_by.Goals as goal

pub returns-in_err-try_from : goal.returns-in_err-try_from
returns-in_err-try_from c = rw (raised c.from_residual.ensures.1) (no-call _ _ _ _ c.try_from.ensures _ c.in_err-try_from.was)

pub returns : goal.returns
returns c = by_number _ _ _ _ c.try_from.ensures _ _ c.in_ok-try_from.was c.ask.ensures
