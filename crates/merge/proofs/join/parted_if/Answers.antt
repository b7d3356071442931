-- `parted_if` meets its contract.
use Rattle.answer.proofs.Opened.{raised}
use Rattle.merge.proofs.Joins.{parted-answer}
use Rattle.merge.proofs.join.parted_if.Goals as goal

pub returns-in_err-two : goal.returns-in_err-two
returns-in_err-two c = rw (raised c.from_residual.ensures.1) (parted-answer _ _ c.in_err-two.was)
