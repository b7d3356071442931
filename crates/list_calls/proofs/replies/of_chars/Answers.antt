-- `of_chars` meets its contract: for each of the two answers.
use Rattle.answer.proofs.Opened.{raised}
use mathlib.Core.Path.{sym}
use Rattle.list_calls.proofs.replies.of_chars.Goals as goal

pub returns-in_err-i : goal.returns-in_err-i
returns-in_err-i c = rw (raised c.from_residual.ensures.1) (sym (rw c.in_err-i.was))

pub returns : goal.returns
returns c = sym (rw c.in_ok-i.was)
