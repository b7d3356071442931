-- `fix_segment_seam` meets its contract: its own rules are asked first, and the layer below asks the rest.
use Rattle.answer.proofs.Opened.{raised}
use mathlib.Core.Path.{refl, sym}
use native.Mathlib.Omega.{arith}
use lib.ListN.{length-take}
use lib.Seq.{length-take-le}
use Rattle.leaf_bytes.proofs.Rules.{leaves-refused, leaves-same}
use Rattle.node_text.proofs.Checks.{seam-refused, seam-mends}
use Rattle.leaf_split.proofs.fix_segment_seam.Goals as goal

pub slice_bounds-checked_seam-end : goal.slice_bounds-checked_seam-end
slice_bounds-checked_seam-end c = omega (arith, c.held-a.ensures, length-take c.args.l_len c.args.l.now)

pub slice_bounds-checked_seam-end-2 : goal.slice_bounds-checked_seam-end-2
slice_bounds-checked_seam-end-2 c = sym (length-take-le c.held-a.result c.args.l.now (omega (arith, c.held-a.ensures, length-take c.args.l_len c.args.l.now)))

pub slice_bounds-checked_seam-end-3 : goal.slice_bounds-checked_seam-end-3
slice_bounds-checked_seam-end-3 c = omega (arith, c.held-b.ensures, length-take c.args.r_len c.args.r.now)

pub slice_bounds-checked_seam-end-4 : goal.slice_bounds-checked_seam-end-4
slice_bounds-checked_seam-end-4 c = sym (length-take-le c.held-b.result c.args.r.now (omega (arith, c.held-b.ensures, length-take c.args.r_len c.args.r.now)))

pub returns-in_err-checked_seam : goal.returns-in_err-checked_seam
returns-in_err-checked_seam c = rw (raised c.from_residual.ensures.1) (
    let a = c.args in
    leaves-refused _ _ _ _ _
    (seam-refused a.l.now a.l_len a.r.now a.r_len _ _ c.held-a.ensures c.held-b.ensures _ c.checked_seam.ensures _ c.in_err-checked_seam.was)
    refl)

pub returns : goal.returns
returns c =
    let a = c.args in
    leaves-same _ _ _ _ _ _ _
    (seam-mends a.l.now a.l_len a.r.now a.r_len _ _ c.held-a.ensures c.held-b.ensures _ c.checked_seam.ensures _ c.in_ok-checked_seam.was)
    c.mend.ensures
