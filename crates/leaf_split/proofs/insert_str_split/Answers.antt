-- `insert_str_split` meets its contract: its own rules are asked first, and the layer below asks the rest.
use Rattle.answer.proofs.Opened.{raised}
use mathlib.Core.Path.{refl, sym}
use native.Mathlib.Omega.{arith}
use lib.ListN.{length-take}
use lib.Seq.{length-take-le}
use Rattle.leaf_bytes.proofs.Rules.{leaves-refused, leaves-same}
use Rattle.node_text.proofs.Checks.{insert-refused, insert-halves}
use Rattle.leaf_split.proofs.insert_str_split.Goals as goal

pub slice_bounds-checked-end : goal.slice_bounds-checked-end
slice_bounds-checked-end c = omega (arith, c.held-n.ensures, length-take c.args.len c.args.region.now)

pub slice_bounds-checked-end-2 : goal.slice_bounds-checked-end-2
slice_bounds-checked-end-2 c = sym (length-take-le c.held-n.result c.args.region.now (omega (arith, c.held-n.ensures, length-take c.args.len c.args.region.now)))

pub returns-in_err-checked : goal.returns-in_err-checked
returns-in_err-checked c = rw (raised c.from_residual.ensures.1) (
    let a = c.args in
    leaves-refused _ _ _ _ _
    (insert-refused a.region.now a.len a.byte_idx a.string.now a.right.now _ c.held-n.ensures _ c.checked.ensures _ c.in_err-checked.was)
    refl)

pub returns : goal.returns
returns c =
    let a = c.args in
    leaves-same _ _ _ _ _ _ _
    (insert-halves a.region.now a.len a.byte_idx a.string.now a.right.now _ c.held-n.ensures _ c.checked.ensures _ c.in_ok-checked.was)
    c.halve.ensures
