-- `of_truth` meets its contract: for a yes, a no, and a refusal.
use Rattle.answer.proofs.Opened.{raised}
use mathlib.Core.Path.{sym}
use Rattle.list_calls.proofs.replies.of_truth.Goals as goal

pub returns-then-yes : goal.returns-then-yes
returns-then-yes c = sym (rw (c.in_ok-yes.was, c.if-yes.true))

pub returns-in_err-yes : goal.returns-in_err-yes
returns-in_err-yes c = rw (raised c.from_residual.ensures.1) (sym (rw c.in_err-yes.was))

pub returns : goal.returns
returns c = sym (rw (c.in_ok-yes.was, c.if-yes.false))
