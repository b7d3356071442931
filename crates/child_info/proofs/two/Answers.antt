-- `two` meets its contract.
use Rattle.child_info.proofs.Rules.{pair_set}
use Rattle.child_info.proofs.two.Goals as goal

pub returns : goal.returns
returns c = pair_set c.new-list.result _ _ c.new-list.ensures
