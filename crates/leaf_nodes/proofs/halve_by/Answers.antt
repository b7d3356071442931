-- `halve_by` meets its contract: the region is parted where it lies, its head is set, and the right side becomes a leaf.
use Rattle.answer.proofs.Opened.{passed}
use mathlib.Core.Path.{refl, sym}
use native.Mathlib.Omega.{arith}
use lib.Seq.{length-take-le}
use Rattle.pool.proofs.Opened.{region-opened}
use Rattle.nodes.proofs.Heads.{inside}
use Rattle.nodes.proofs.Laid.{region-there}
use Rattle.leaf_nodes.proofs.Halved.{halve-not, side-long, side-small, left-fits, back-there, halve-done}
use Rattle.leaf_nodes.proofs.halve_by.Goals as goal

pub overflow_add-end : goal.overflow_add-end
overflow_add-end c =
    let a = c.args in
    omega (arith, region-opened c.region_start.result a.m.now a.slot _ c.region_start.ensures c.in_ok-start.was)

pub returns-in_err-l : goal.returns-in_err-l
returns-in_err-l c = rw (passed c.in_err-l.was c.from_residual-in_err-l.ensures.1) (
    let a = c.args in
    let o = region-opened c.region_start.result a.m.now a.slot _ c.region_start.ensures c.in_ok-start.was in
    halve-not a.m.now a.slot o.0 _ _ o.1 refl a.right (inside a.m.now a.right c.requires.1) a.n a.at a.piece.now a.side.now c.requires.2 _ _ _ c.insert_str_split.ensures _ c.in_err-l.was)

pub slice_bounds-make_two-end : goal.slice_bounds-make_two-end
slice_bounds-make_two-end c =
    let a = c.args in
    let o = region-opened c.region_start.result a.m.now a.slot _ c.region_start.ensures c.in_ok-start.was in
    side-long a.m.now a.slot o.0 _ _ o.1 refl a.right (inside a.m.now a.right c.requires.1) a.n a.at a.piece.now a.side.now c.requires.2 _ _ _ c.insert_str_split.ensures _ _ c.in_ok-l.was

pub make_two-requires : goal.make_two-requires
make_two-requires c =
    let a = c.args in
    let o = region-opened c.region_start.result a.m.now a.slot _ c.region_start.ensures c.in_ok-start.was in
    let there = inside a.m.now a.right c.requires.1 in (
      back-there a.m.now a.slot o.0 _ _ o.1 refl a.right there a.n a.at a.piece.now a.side.now c.requires.2 _ _ _ c.insert_str_split.ensures _ _ c.in_ok-l.was a.slot o.0,
      back-there a.m.now a.slot o.0 _ _ o.1 refl a.right there a.n a.at a.piece.now a.side.now c.requires.2 _ _ _ c.insert_str_split.ensures _ _ c.in_ok-l.was a.right there,
      left-fits a.m.now a.slot o.0 _ _ o.1 refl a.right there a.n a.at a.piece.now a.side.now c.requires.2 _ _ _ c.insert_str_split.ensures _ _ c.in_ok-l.was,
      side-small a.m.now a.slot o.0 _ _ o.1 refl a.right there a.n a.at a.piece.now a.side.now c.requires.2 _ _ _ c.insert_str_split.ensures _ _ c.in_ok-l.was,
    )

pub returns-in_err-start : goal.returns-in_err-start
returns-in_err-start c =
    let a = c.args in
    absurd (region-there c.region_start.result a.m.now a.slot _ c.region_start.ensures c.in_err-start.was (inside a.m.now a.slot c.requires.0))

pub returns : goal.returns
returns c =
    let a = c.args in
    let o = region-opened c.region_start.result a.m.now a.slot _ c.region_start.ensures c.in_ok-start.was in
    halve-done a.m.now a.slot o.0 _ _ o.1 refl a.right (inside a.m.now a.right c.requires.1) a.n a.at a.piece.now a.side.now c.requires.2 _ _ _ c.insert_str_split.ensures _ _ c.in_ok-l.was c.make_two.result _ c.make_two.ensures.0 c.make_two.ensures.1

pub slice_bounds-insert_str_split-end : goal.slice_bounds-insert_str_split-end
slice_bounds-insert_str_split-end c =
    let a = c.args in
    omega (arith, region-opened c.region_start.result a.m.now a.slot _ c.region_start.ensures c.in_ok-start.was)
