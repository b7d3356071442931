-- `remove` meets its contract.
use native.Mathlib.Omega.{arith}
use Rattle.node_children.proofs.Rules.{taking-same, taking-done, removed-none, removed-past, removed-long, removed-done}
use Rattle.node_children.proofs.NodeChildren.remove.Goals as goal

pub returns-then-n-eq0 : goal.returns-then-n-eq0
returns-then-n-eq0 c = let a = c.args in taking-same _ a.self _ _ (removed-none a.self a.idx (omega arith)) c.none_taken.ensures

pub returns-then-n-idx : goal.returns-then-n-idx
returns-then-n-idx c = let a = c.args in taking-same _ a.self _ _ (removed-past a.self a.idx (omega arith) (omega arith)) c.none_taken-then-n-idx.ensures

pub returns-then-n-gt-MAX_LEN : goal.returns-then-n-gt-MAX_LEN
returns-then-n-gt-MAX_LEN c = let a = c.args in taking-same _ a.self _ _ (removed-long a.self a.idx (omega arith) (omega arith) (omega arith)) c.none_taken-then-n-gt-MAX_LEN.ensures

pub returns : goal.returns
returns c =
    let a = c.args in
    taking-done _ a.self _ _ _ _ (removed-done a.self a.idx (omega arith) (omega arith) (omega arith)) c.child.ensures c.remove_at.ensures.is
