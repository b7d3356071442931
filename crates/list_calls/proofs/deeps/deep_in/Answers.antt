-- `deep_in` meets its contract: in each arm, what the call that it makes ensures.
use mathlib.Core.Path.{ap, ◌∙◌}
use Rattle.plain.specs.Outcome.{mapped}
use Rattle.list_calls.specs.Asked.{told, deep_by}
use Rattle.list_calls.proofs.Opened.{wrote-replied, said-replied, read-replied}
use Rattle.list_calls.proofs.deeps.deep_in.Goals as goal

pub returns-in-UpdateChildInfo : goal.returns-in-UpdateChildInfo
unfolding deep_by
returns-in-UpdateChildInfo c = rw c.in-UpdateChildInfo.is (wrote-replied _ _ _ _ _ _ c.update_child_info.ensures c.of_verdict.ensures)

pub returns-in-MergeDistribute : goal.returns-in-MergeDistribute
unfolding deep_by
returns-in-MergeDistribute c = rw c.in-MergeDistribute.is (said-replied _ _ _ _ _ c.merge_distribute.ensures c.of_truth.ensures)

pub returns-in-CompactLeaves : goal.returns-in-CompactLeaves
unfolding deep_by
returns-in-CompactLeaves c = rw c.in-CompactLeaves.is (wrote-replied _ _ _ _ _ _ c.compact_leaves.ensures c.of_verdict-in-CompactLeaves.ensures)

pub returns-in-IsInfoAccurate : goal.returns-in-IsInfoAccurate
unfolding deep_by
returns-in-IsInfoAccurate c = rw c.in-IsInfoAccurate.is (read-replied _ _ _ (c.of_truth-in-IsInfoAccurate.ensures ∙ ap (mapped told) c.is_info_accurate.ensures))
