-- `mend` meets its contract: where the seam is moved to, the bytes between change sides.
use mathlib.Core.Path.{refl, sym, ap, ◌∙◌}
use mathlib.Core.Bool.{false}
use mathlib.Core.List.{[], ◌++◌}
use native.Mathlib.Omega.{arith}
use lib.Seq.{length-take-le}
use Rattle.leaf_bytes.specs.Leaf.{leaf_of}
use Rattle.leaf_bytes.specs.Raw.{cutting}
use Rattle.leaf_bytes.proofs.Opened.{value-never, value-is}
use Rattle.leaf_bytes.proofs.Calls.{mend-left-empty, mend-right-empty, mend-left-long, mend-right-long, mend-rest}
use Rattle.leaf_bytes.proofs.Rules.{leaves-refused, leaves-same}
use Rattle.leaf_bytes.proofs.Split.{seam-le}
use Rattle.leaf_seams.proofs.mend.Goals as goal

pub returns-then-least-eq0 : goal.returns-then-least-eq0
returns-then-least-eq0 c =
    let a = c.args in
    leaves-refused _ _ _ _ 12 (mend-left-empty a.left.now a.len a.right.now a.right_len (omega arith)) refl

pub returns-then-least-eq0-2 : goal.returns-then-least-eq0-2
returns-then-least-eq0-2 c =
    let a = c.args in
    leaves-refused _ _ _ _ 12 (mend-right-empty a.left.now a.len a.right.now a.right_len (omega arith)) refl

pub returns-then-room-len : goal.returns-then-room-len
returns-then-room-len c =
    let a = c.args in
    leaves-refused _ _ _ _ 11 (mend-left-long a.left.now a.len a.right.now a.right_len (omega arith) (omega arith) (omega arith)) refl

pub returns-then-room-right_len : goal.returns-then-room-right_len
returns-then-room-right_len c =
    let a = c.args in
    leaves-refused _ _ _ _ 11 (mend-right-long a.left.now a.len a.right.now a.right_len (omega arith) (omega arith) (omega arith)) refl

pub slice_bounds-seam_split-end-2 : goal.slice_bounds-seam_split-end-2
slice_bounds-seam_split-end-2 c = sym (length-take-le c.args.len c.args.left.now (omega arith))

pub slice_bounds-seam_split-end-4 : goal.slice_bounds-seam_split-end-4
slice_bounds-seam_split-end-4 c = sym (length-take-le c.args.right_len c.args.right.now (omega arith))

pub seam_split-requires : goal.seam_split-requires
seam_split-requires c =
    let long = length-take-le c.args.len c.args.left.now (omega arith) in
    let right-long = length-take-le c.args.right_len c.args.right.now (omega arith) in
    (omega arith, omega arith, omega arith, omega arith)

pub move_seam-requires : goal.move_seam-requires
move_seam-requires c =
    let a = c.args in
    let l = leaf_of a.left.now a.len in
    let r = leaf_of a.right.now a.right_len in
    let split = value-is _ _ c.seam_split.ensures _ c.in_ok-split.was in (
      omega arith,
      omega arith,
      omega (arith, split, seam-le l r, length-take-le a.len a.left.now (omega arith), length-take-le a.right_len a.right.now (omega arith)),
      omega arith,
      omega arith,
    )

pub returns-in_err-split : goal.returns-in_err-split
returns-in_err-split c = absurd (value-never _ _ c.seam_split.ensures _ c.in_err-split.was)

pub returns : goal.returns
returns c =
    let a = c.args in
    let split = value-is _ _ c.seam_split.ensures _ c.in_ok-split.was in
    leaves-same _ _ _ _ _ _ _
    (ap (cutting [] false a.left.now a.right.now (leaf_of a.left.now a.len ++ leaf_of a.right.now a.right_len)) split
    ∙ sym (mend-rest a.left.now a.len a.right.now a.right_len (omega arith) (omega arith) (omega arith) (omega arith)))
    c.move_seam.ensures
