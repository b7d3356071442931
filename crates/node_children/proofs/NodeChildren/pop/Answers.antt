-- `pop` meets its contract.
use native.Mathlib.Omega.{arith}
use Rattle.node_children.proofs.Rules.{taking-same, taking-done, popped-none, popped-long, popped-done}
use Rattle.node_children.proofs.NodeChildren.pop.Goals as goal

pub returns-then-n-eq0 : goal.returns-then-n-eq0
returns-then-n-eq0 c = let a = c.args in taking-same _ a.self _ _ (popped-none a.self (omega arith)) c.none_taken.ensures

pub returns-then-n-gt-MAX_LEN : goal.returns-then-n-gt-MAX_LEN
returns-then-n-gt-MAX_LEN c = let a = c.args in taking-same _ a.self _ _ (popped-long a.self (omega arith)) c.none_taken-then-n-gt-MAX_LEN.ensures

pub returns : goal.returns
returns c =
    let a = c.args in
    taking-done _ a.self _ _ _ _ (popped-done a.self (omega arith) (omega arith)) c.child.ensures c.front.ensures.is
