-- `of_sum` meets its contract: for each of the two answers.
use Rattle.answer.proofs.Opened.{raised}
use mathlib.Core.Path.{sym}
use Rattle.list_calls.proofs.replies.of_sum.Goals as goal

pub returns-in_err-t : goal.returns-in_err-t
returns-in_err-t c = rw (raised c.from_residual.ensures.1) (sym (rw c.in_err-t.was))

pub returns : goal.returns
returns c = sym (rw c.in_ok-t.was)
