-- `leaf_calls::ask_by` meets its contract: the answer is that of the call which the number names.
use Rattle.answer.proofs.Opened.{raised}
use Rattle.leaf_calls.proofs.Laws.{no-call, by_number}
use Rattle.leaf_calls.proofs.ask_by.Goals as goal

pub returns-in_err-call : goal.returns-in_err-call
returns-in_err-call c = rw (raised c.from_residual.ensures.1) (no-call _ _ _ _ _ _ _ _ c.try_from.ensures c.in_err-call.was)

pub returns : goal.returns
returns c = by_number _ _ _ _ _ _ _ _ c.try_from.ensures c.in_ok-call.was c.ask.ensures
