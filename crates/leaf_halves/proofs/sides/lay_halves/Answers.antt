-- `sides::lay_halves` meets its contract: 11 where a side is too long, else both are laid.
use mathlib.Core.Path.{refl, sym, ap, ◌∙◌}
use Prim.Native.Nat.{ℕ, ◌-◌}
use native.Mathlib.Omega.{arith}
use lib.ListN.{length}
use Rattle.plain.specs.Edit.{put_in}
use Rattle.plain.specs.Outcome.{Outcome.value}
use Rattle.leaf_bytes.specs.Leaf.{leaf_of}
use Rattle.leaf_bytes.proofs.Rules.{leaves-refused, leaves-done, over_yes, over_no, cut_left, cut_right, cut-done, cut-lengths}
use Rattle.leaf_bytes.proofs.Laid.{whole_length}
use Rattle.leaf_halves.proofs.sides.lay_halves.Goals as goal

pub returns-then-room-split : goal.returns-then-room-split
returns-then-room-split c =
    let a = c.args in
    let r = a.region.now in
    let t = put_in a.a a.string.now (leaf_of r a.len) in
    leaves-refused _ _ _ _ 11 (cut_left r a.right.now t a.split (over_yes r a.split (omega arith))) refl

pub returns-then-room-rest : goal.returns-then-room-rest
returns-then-room-rest c =
    let a = c.args in
    let r = a.region.now in
    let t = put_in a.a a.string.now (leaf_of r a.len) in
    leaves-refused _ _ _ _ 11
    (cut_right r a.right.now t a.split
    (over_yes a.right.now (length t - a.split) (omega (arith, whole_length r a.string.now a.len a.a a.split (omega arith) (omega arith)))))
    refl

pub returns : goal.returns
returns c =
    let a = c.args in
    let r = a.region.now in
    let t = put_in a.a a.string.now (leaf_of r a.len) in
    let long = whole_length r a.string.now a.len a.a a.split (omega arith) (omega arith) in
    leaves-done _ _ _ _ _ _ _ _ (cut-done r a.right.now t a.split (over_no r a.split (omega arith)) (over_no a.right.now (length t - a.split) (omega arith)))
    (c.lay_split.ensures.0 ∙ ap (λ (n : ℕ). value (a.split, n - a.split)) (sym long) ∙ cut-lengths t a.split (omega arith)) c.lay_split.ensures.1 c.lay_split.ensures.2
