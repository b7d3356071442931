-- `told_if` meets its contract: for each of the two answers.
use Rattle.answer.proofs.Opened.{raised}
use mathlib.Core.Path.{sym}
use Rattle.compact.proofs.pack.told_if.Goals as goal

pub returns-in_err-edit : goal.returns-in_err-edit
returns-in_err-edit c = rw (raised c.from_residual.ensures.1) (sym (rw c.in_err-edit.was))

pub returns : goal.returns
returns c = sym (rw c.in_ok-edit.was)
