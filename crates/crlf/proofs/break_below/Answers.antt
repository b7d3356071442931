-- `crlf::break_below` meets its contract. The loop's invariant: the last break at or below the candidate is the one looked for.
use mathlib.Core.Path.{sym, ◌∙◌}
use Prim.Native.Nat.{◌-◌, ◌<◌}
use native.Mathlib.Omega.{arith}
use borrow.Author.Tests.{not-true, not-false}
use Rattle.plain.proofs.Search.{last-at, last-down}
use Rattle.crlf.proofs.Laws.{no-break-pos, prev-is, prev-0}
use Rattle.crlf.proofs.break_below.Goals as goal

pub returns-then-byte_idx-eq0 : goal.returns-then-byte_idx-eq0
returns-then-byte_idx-eq0 c = sym (prev-0 _ _ c.if-byte_idx-eq0.true)

pub overflow_sub-boundary_idx-in-loop-boundary_idx : goal.overflow_sub-boundary_idx-in-loop-boundary_idx
overflow_sub-boundary_idx-in-loop-boundary_idx c = no-break-pos _ _ (sym c.breaks_at.ensures ∙ not-true _ c.loop-boundary_idx-test.true-raw)

pub loop-boundary_idx-smaller : goal.loop-boundary_idx-smaller
loop-boundary_idx-smaller c = let h : 0 < c.loop-boundary_idx.boundary_idx = no-break-pos _ _ (sym c.breaks_at.ensures ∙ not-true _ c.loop-boundary_idx-test.true-raw) in omega arith

pub loop-boundary_idx-preserved : goal.loop-boundary_idx-preserved
loop-boundary_idx-preserved c = (omega arith, last-down _ _ (sym c.breaks_at.ensures ∙ not-true _ c.loop-boundary_idx-test.true-raw) ∙ c.loop-boundary_idx.invariant.1)

pub returns : goal.returns
returns c = sym (last-at _ _ (sym c.breaks_at.ensures ∙ not-false _ c.loop-boundary_idx-test.false-raw)) ∙ c.loop-boundary_idx.invariant.1 ∙ sym (prev-is _ _)
