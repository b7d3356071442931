-- `part` meets its contract: the right part is laid, the left one is where it was.
use mathlib.Core.Path.{◌≡◌, refl, sym, ap, ◌∙◌}
use Prim.Native.Nat.{ℕ, ◌-◌}
use native.Mathlib.Omega.{arith}
use lib.ListN.{length, take, drop, length-take}
use lib.Seq.{length-take-le, take-take}
use Rattle.plain.specs.Outcome.{Outcome.value}
use Rattle.leaf_bytes.specs.Leaf.{leaf_of, laid}
use Rattle.leaf_bytes.proofs.Calls.{part-past, part-long, part-rest}
use Rattle.leaf_bytes.proofs.Rules.{leaves-refused, leaves-done, over_yes, over_no, cut_right, cut-done, cut-lengths}
use Rattle.leaf_bytes.proofs.Laid.{laid-own, laid-first}
use Rattle.octets.proofs.Over.{part-is}
use Rattle.leaf_bytes.proofs.part.Goals as goal

pub returns-then-held-at : goal.returns-then-held-at
returns-then-held-at c =
    let a = c.args in
    leaves-refused _ _ _ _ 3 (part-past a.region.now a.len a.at a.right.now (omega arith)) refl

pub returns-then-room-len : goal.returns-then-room-len
returns-then-room-len c =
    let a = c.args in
    leaves-refused _ _ _ _ 11 (part-long a.region.now a.len a.at a.right.now (omega arith) (omega arith)) refl

pub returns-then-room-len-2 : goal.returns-then-room-len-2
returns-then-room-len-2 c =
    let a = c.args in
    let r = a.region.now in
    let t = leaf_of r a.len in
    leaves-refused _ _ _ _ 11
    (part-rest r a.len a.at a.right.now (omega arith) (omega arith)
    ∙ cut_right r a.right.now t a.at (over_yes a.right.now (length t - a.at) (omega (arith, length-take a.len r))))
    refl

pub returns : goal.returns
returns c =
    let a = c.args in
    let r = a.region.now in
    let t = leaf_of r a.len in
    let long : length t ≡ a.len = length-take-le a.len r (omega arith) in
    leaves-done _ _ _ _ _ _ _ _
    (part-rest r a.len a.at a.right.now (omega arith) (omega arith)
    ∙ cut-done r a.right.now t a.at (over_no r a.at (omega arith)) (over_no a.right.now (length t - a.at) (omega arith)))
    (ap (λ (n : ℕ). value (a.at, n - a.at)) (sym long) ∙ cut-lengths t a.at (omega arith))
    (sym (ap (laid r) (take-take a.at a.len r (omega arith)) ∙ laid-own r a.at (omega arith)))
    (c.put.ensures ∙ laid-first a.right.now (take (a.len - a.at) (drop a.at r)) ∙ ap (laid a.right.now) (sym (part-is a.at a.len r)))
