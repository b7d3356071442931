-- `edit` meets its contract: its own rules are asked first, and the layer below asks the rest.
use Rattle.answer.proofs.Opened.{passed}
use Rattle.answer.specs.Answers.{outcome}
use mathlib.Core.Path.{sym, ap}
use native.Mathlib.Omega.{arith}
use lib.ListN.{length-take}
use lib.Seq.{length-take-le}
use Rattle.leaf_bytes.proofs.Rules.{leaf-refused, leaf-same}
use Rattle.node_text.proofs.Checks.{edit-refused, edit-replaces}
use Rattle.node_text.proofs.edit.Goals as goal

pub slice_bounds-checked-end : goal.slice_bounds-checked-end
slice_bounds-checked-end c = omega (arith, c.held-n.ensures, length-take c.args.len c.args.region.now)

pub slice_bounds-checked-end-2 : goal.slice_bounds-checked-end-2
slice_bounds-checked-end-2 c = sym (length-take-le c.held-n.result c.args.region.now (omega (arith, c.held-n.ensures, length-take c.args.len c.args.region.now)))

pub returns-in_err-checked : goal.returns-in_err-checked
returns-in_err-checked c = rw (passed c.in_err-checked.was c.from_residual.ensures.1) (
    let a = c.args in
    leaf-refused _ _ _ _
    (edit-refused a.region.now a.len a.start a.end a.piece.now _ c.held-n.ensures _ c.checked.ensures _ c.in_err-checked.was)
    (ap outcome c.in_err-checked.was))

pub returns : goal.returns
returns c =
    let a = c.args in
    leaf-same _ _ _ _ _
    (edit-replaces a.region.now a.len a.start a.end a.piece.now _ c.held-n.ensures _ c.checked.ensures _ c.in_ok-checked.was)
    c.replace.ensures
