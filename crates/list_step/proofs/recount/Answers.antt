-- `recount` meets its contract: the child's entry set, its counts the new ones.
use Rattle.list_step.proofs.Rules.{recount-is}
use Rattle.list_step.proofs.recount.Goals as goal

pub returns : goal.returns
returns c = let a = c.args in recount-is a.list a.idx a.info c.requires.0 c.requires.2
