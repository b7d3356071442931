-- `of_verdict` meets its contract: for each of the two verdicts.
use Rattle.answer.proofs.Opened.{raised}
use mathlib.Core.Path.{sym}
use Rattle.list_calls.proofs.replies.of_verdict.Goals as goal

pub returns : goal.returns
returns c = sym (rw c.in_ok-v.was)

pub returns-in_err-v : goal.returns-in_err-v
returns-in_err-v c = rw (raised c.from_residual.ensures.1) (sym (rw c.in_err-v.was))
