-- `insert` meets its contract.
use native.Mathlib.Omega.{arith}
use Rattle.answer.specs.declared.Refusal.TheVariants.{Place, Size}
use Rattle.node_children.proofs.Rules.{listing-refused, listing-done, inserted-past, inserted-full, inserted-done}
use Rattle.node_children.proofs.NodeChildren.insert.Goals as goal

pub returns-then-n-idx : goal.returns-then-n-idx
returns-then-n-idx c = let a = c.args in listing-refused _ a.self Place (inserted-past a.self a.idx a.item (omega arith))

pub returns-then-n-ge-MAX_LEN : goal.returns-then-n-ge-MAX_LEN
returns-then-n-ge-MAX_LEN c = let a = c.args in listing-refused _ a.self Size (inserted-full a.self a.idx a.item (omega arith) (omega arith))

pub returns : goal.returns
returns c =
    let a = c.args in
    listing-done _ a.self _ c.insert_at.result (inserted-done a.self a.idx a.item (omega arith) (omega arith)) c.insert_at.ensures.is
