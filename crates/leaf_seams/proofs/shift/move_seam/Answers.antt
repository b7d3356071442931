-- `shift::move_seam` meets its contract: 11 where a side is too long, else bytes change sides.
use mathlib.Core.Path.{refl, sym, ap, ◌∙◌}
use mathlib.Core.List.{◌++◌}
use Prim.Native.Nat.{ℕ, ◌-◌}
use native.Mathlib.Omega.{arith}
use lib.ListN.{length}
use Rattle.plain.specs.Outcome.{Outcome.value}
use Rattle.leaf_bytes.specs.Leaf.{leaf_of}
use Rattle.leaf_bytes.proofs.Rules.{leaves-refused, leaves-done, over_yes, over_no, cut_left, cut_right, cut-done, cut-lengths}
use Rattle.leaf_bytes.proofs.Laid.{joined_length}
use Rattle.leaf_seams.proofs.shift.move_seam.Goals as goal

pub returns-then-room-split : goal.returns-then-room-split
returns-then-room-split c =
    let a = c.args in
    let t = leaf_of a.left.now a.len ++ leaf_of a.right.now a.right_len in
    leaves-refused _ _ _ _ 11 (cut_left a.left.now a.right.now t a.split (over_yes a.left.now a.split (omega arith))) refl

pub returns-then-room-rest : goal.returns-then-room-rest
returns-then-room-rest c =
    let a = c.args in
    let t = leaf_of a.left.now a.len ++ leaf_of a.right.now a.right_len in
    leaves-refused _ _ _ _ 11
    (cut_right a.left.now a.right.now t a.split
    (over_yes a.right.now (length t - a.split) (omega (arith, joined_length a.left.now a.right.now a.len a.right_len a.split (omega arith) (omega arith)))))
    refl

pub returns : goal.returns
returns c =
    let a = c.args in
    let t = leaf_of a.left.now a.len ++ leaf_of a.right.now a.right_len in
    let long = joined_length a.left.now a.right.now a.len a.right_len a.split (omega arith) (omega arith) in
    leaves-done _ _ _ _ _ _ _ _
    (cut-done a.left.now a.right.now t a.split (over_no a.left.now a.split (omega arith)) (over_no a.right.now (length t - a.split) (omega arith)))
    (c.shift_seam.ensures.0 ∙ ap (λ (n : ℕ). value (a.split, n - a.split)) (sym long) ∙ cut-lengths t a.split (omega arith)) c.shift_seam.ensures.1 c.shift_seam.ensures.2
