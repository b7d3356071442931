-- `split_off` meets its contract.
use mathlib.Core.List.{[]}
use native.Mathlib.Omega.{arith}
use Rattle.node_children.specs.Kids.{list_of}
use Rattle.node_children.proofs.Rules.{parting-same, parting-done, split-past, split-long, split_done}
use Rattle.node_children.proofs.NodeChildren.split_off.Goals as goal

pub returns-then-n-idx : goal.returns-then-n-idx
returns-then-n-idx c = let a = c.args in parting-same _ a.self (list_of []) _ _ (split-past a.self a.idx (omega arith)) c.not_parted.ensures

pub returns-then-n-gt-MAX_LEN : goal.returns-then-n-gt-MAX_LEN
returns-then-n-gt-MAX_LEN c = let a = c.args in parting-same _ a.self (list_of []) _ _ (split-long a.self a.idx (omega arith) (omega arith)) c.not_parted-then-n-gt-MAX_LEN.ensures

pub returns : goal.returns
returns c =
    let a = c.args in
    parting-done _ a.self (list_of []) _ _ _ _ (split_done a.self a.idx (omega arith) (omega arith)) c.front.ensures.is c.rest.ensures.is
