-- `push_split` meets its contract.
use mathlib.Core.List.{[]}
use native.Mathlib.Omega.{arith}
use Rattle.node_children.specs.Kids.{list_of}
use Rattle.node_children.proofs.Rules.{parting-same, push-split-none, push-split-long, push-split-done}
use Rattle.child_split.proofs.push_split.Goals as goal

pub returns-then-n-eq0 : goal.returns-then-n-eq0
returns-then-n-eq0 c = let a = c.args in parting-same _ a.list (list_of []) _ _ (push-split-none a.list a.new_child (omega arith)) c.not_parted.ensures

pub returns-then-n-gt-MAX_LEN : goal.returns-then-n-gt-MAX_LEN
returns-then-n-gt-MAX_LEN c = let a = c.args in parting-same _ a.list (list_of []) _ _ (push-split-long a.list a.new_child (omega arith)) c.not_parted-then-n-gt-MAX_LEN.ensures

pub returns : goal.returns
returns c =
    let a = c.args in
    parting-same _ a.list (list_of []) _ _ (push-split-done a.list a.new_child (omega arith) (omega arith)) c.split_with.ensures
