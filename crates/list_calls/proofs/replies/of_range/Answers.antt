-- `of_range` meets its contract: for each of the two answers.
use mathlib.Core.Path.{sym}
use Rattle.list_calls.proofs.replies.of_range.Goals as goal

pub returns-in-Err : goal.returns-in-Err
returns-in-Err c = sym (rw c.in-Err.is)

pub returns-in-Ok : goal.returns-in-Ok
returns-in-Ok c = sym (rw c.in-Ok.is)
