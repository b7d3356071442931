-- `halve` meets its contract: where the whole is split, its sides are laid.
use mathlib.Core.Path.{refl, sym, ap, ◌∙◌}
use mathlib.Core.Bool.{false}
use mathlib.Core.List.{[]}
use native.Mathlib.Omega.{arith}
use lib.Seq.{length-take-le}
use Rattle.plain.specs.Edit.{put_in}
use Rattle.leaf_bytes.specs.Leaf.{leaf_of}
use Rattle.leaf_bytes.specs.Raw.{cutting}
use Rattle.leaf_bytes.proofs.Laid.{whole_length}
use Rattle.leaf_bytes.proofs.Opened.{value-never, value-is}
use Rattle.leaf_bytes.proofs.Calls.{halve-past, halve-long, halve-piece, halve-rest}
use Rattle.leaf_bytes.proofs.Rules.{leaves-refused, leaves-same}
use Rattle.leaf_bytes.proofs.Split.{half_le}
use Rattle.leaf_halves.proofs.halve.Goals as goal

pub returns-then-held-at : goal.returns-then-held-at
returns-then-held-at c =
    let a = c.args in
    leaves-refused _ _ _ _ 3 (halve-past a.region.now a.len a.at a.piece.now a.right.now (omega arith)) refl

pub returns-then-room-len : goal.returns-then-room-len
returns-then-room-len c =
    let a = c.args in
    leaves-refused _ _ _ _ 11 (halve-long a.region.now a.len a.at a.piece.now a.right.now (omega arith) (omega arith)) refl

pub returns-then-piece : goal.returns-then-piece
returns-then-piece c =
    let a = c.args in
    leaves-refused _ _ _ _ 11 (halve-piece a.region.now a.len a.at a.piece.now a.right.now (omega arith) (omega arith) (omega arith)) refl

pub slice_bounds-half_split-end-2 : goal.slice_bounds-half_split-end-2
slice_bounds-half_split-end-2 c = sym (length-take-le c.args.len c.args.region.now (omega arith))

pub half_split-requires : goal.half_split-requires
half_split-requires c =
    let long = length-take-le c.args.len c.args.region.now (omega arith) in
    (omega arith, omega arith, omega arith)

pub lay_halves-requires : goal.lay_halves-requires
lay_halves-requires c =
    let a = c.args in
    let r = a.region.now in
    let t = put_in a.at a.piece.now (leaf_of r a.len) in
    let split = value-is _ _ c.half_split.ensures _ c.in_ok-split.was in
    (omega arith, omega arith, omega (arith, split, half_le t, whole_length r a.piece.now a.len a.at 0 (omega arith) (omega arith)), omega arith)

pub returns-in_err-split : goal.returns-in_err-split
returns-in_err-split c = absurd (value-never _ _ c.half_split.ensures _ c.in_err-split.was)

pub returns : goal.returns
returns c =
    let a = c.args in
    let r = a.region.now in
    let split = value-is _ _ c.half_split.ensures _ c.in_ok-split.was in
    leaves-same _ _ _ _ _ _ _
    (ap (cutting [] false r a.right.now (put_in a.at a.piece.now (leaf_of r a.len))) split
    ∙ sym (halve-rest r a.len a.at a.piece.now a.right.now (omega arith) (omega arith)))
    c.lay_halves.ensures
