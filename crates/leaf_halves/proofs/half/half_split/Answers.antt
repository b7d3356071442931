-- `half::half_split` meets its contract: the nearest break of the window.
use mathlib.Core.Path.{refl, sym, ap}
use Prim.Native.Nat.{ℕ, ◌+◌, ◌-◌, ◌/◌}
use native.Mathlib.Omega.{arith}
use lib.ListN.{length}
use lib.Seq.{length-take-le}
use Rattle.plain.specs.Edit.{put_in}
use Rattle.plain.specs.Outcome.{Outcome.value}
use Rattle.crlf.proofs.Laws.{index-value}
use Rattle.leaf_halves.proofs.Window.{put-length}
use Rattle.leaf_bytes.proofs.Opened.{at-never, half-found}
use Rattle.leaf_bytes.proofs.Split.{half_le}
use Rattle.leaf_halves.proofs.half.half_split.Goals as goal

pub slice_bounds-nearest_internal_break-end : goal.slice_bounds-nearest_internal_break-end
slice_bounds-nearest_internal_break-end c =
    let n : ℕ = c.least-end.result - ((length c.args.leaf.now + length c.args.string.now) / 2 - c.least.result) in
    sym (length-take-le n c.window-buf.result (omega (arith, c.window-buf.ensures.0)))

pub returns-in_err-i : goal.returns-in_err-i
returns-in_err-i c =
    let tot : ℕ = length c.args.leaf.now + length c.args.string.now in
    let n : ℕ = c.least-end.result - (tot / 2 - c.least.result) in
    absurd
    (at-never _ _ _ _ _ (omega (arith, length-take-le n c.window-buf.result (omega (arith, c.window-buf.ensures.0)))) c.nearest_internal_break.ensures
    c.in_err-i.was)

pub overflow_add-result : goal.overflow_add-result
overflow_add-result c =
    let a = c.args in
    let t = put_in a.a a.string.now a.leaf.now in
    let is =
    half-found t _ _ _ _ _ _ (sym (put-length a.leaf.now a.string.now a.a (omega arith))) refl (omega (arith, c.least.ensures)) c.least-end.ensures
    c.window-buf.ensures.1 (index-value _ _ _ _ c.nearest_internal_break.ensures _ c.in_ok-i.was) in
    omega (arith, is, half_le t, put-length a.leaf.now a.string.now a.a (omega arith))

pub returns : goal.returns
returns c =
    let a = c.args in
    ap (λ (n : ℕ). value n)
    (half-found (put_in a.a a.string.now a.leaf.now) _ _ _ _ _ _ (sym (put-length a.leaf.now a.string.now a.a (omega arith))) refl
    (omega (arith, c.least.ensures)) c.least-end.ensures c.window-buf.ensures.1
    (index-value _ _ _ _ c.nearest_internal_break.ensures _ c.in_ok-i.was))
