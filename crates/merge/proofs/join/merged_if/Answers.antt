-- `merged_if` meets its contract.
use Rattle.answer.proofs.Opened.{raised}
use Rattle.merge.proofs.Joins.{merged-answer}
use Rattle.merge.proofs.join.merged_if.Goals as goal

pub returns-in_err-edit : goal.returns-in_err-edit
returns-in_err-edit c = rw (raised c.from_residual.ensures.1) (merged-answer _ _ c.in_err-edit.was)
