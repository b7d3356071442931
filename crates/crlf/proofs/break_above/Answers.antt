-- `crlf::break_above` meets its contract. The loop's invariant: the first break at or above the candidate is the one looked for.
use mathlib.Core.Path.{refl, sym, ◌∙◌}
use Prim.Native.Nat.{◌-◌}
use native.Mathlib.Omega.{arith}
use borrow.Author.Tests.{not-true, not-false}
use Rattle.plain.proofs.Search.{first-at, first-up}
use Rattle.crlf.proofs.Laws.{no-break-end, next-is, next-end}
use Rattle.crlf.proofs.break_above.Goals as goal

pub returns-then-byte_idx-text : goal.returns-then-byte_idx-text
returns-then-byte_idx-text c = sym (next-end _ _ c.if-byte_idx-text.true)

pub loop-boundary_idx-init : goal.loop-boundary_idx-init
loop-boundary_idx-init c = (omega arith, omega arith, refl)

pub overflow_add-boundary_idx-in-loop-boundary_idx : goal.overflow_add-boundary_idx-in-loop-boundary_idx
overflow_add-boundary_idx-in-loop-boundary_idx c = let h = no-break-end _ _ (sym c.breaks_at.ensures ∙ not-true _ c.loop-boundary_idx-test.true-raw) in omega arith

pub loop-boundary_idx-smaller : goal.loop-boundary_idx-smaller
loop-boundary_idx-smaller c = let h = no-break-end _ _ (sym c.breaks_at.ensures ∙ not-true _ c.loop-boundary_idx-test.true-raw) in omega arith

pub loop-boundary_idx-preserved : goal.loop-boundary_idx-preserved
loop-boundary_idx-preserved c =
    let b = c.loop-boundary_idx.boundary_idx in
    let none = sym c.breaks_at.ensures ∙ not-true _ c.loop-boundary_idx-test.true-raw in
    let h = no-break-end _ _ none in
    (omega arith, omega arith, first-up _ b _ (omega arith) none ∙ c.loop-boundary_idx.invariant.2)

pub returns : goal.returns
returns c = sym (first-at _ _ _ (sym c.breaks_at.ensures ∙ not-false _ c.loop-boundary_idx-test.false-raw)) ∙ c.loop-boundary_idx.invariant.2 ∙ sym (next-is _ _ (omega arith))
