-- `chars::floor` meets its contract. The loop's invariant: the last boundary at or below the candidate is the one looked for.
use mathlib.Core.Path.{sym, ◌∙◌}
use native.Mathlib.Omega.{arith}
use borrow.Author.Tests.{not-true, not-false}
use Rattle.plain.proofs.Search.{last-at, last-down}
use Rattle.plain.proofs.Place.{floor-in, floor-out, no-boundary-pos}
use Rattle.str_indices.proofs.chars.floor.Goals as goal

pub returns-then-text-byte_idx : goal.returns-then-text-byte_idx
returns-then-text-byte_idx c = (sym (floor-out _ _ c.if-text-byte_idx.true), omega arith)

pub overflow_sub-i : goal.overflow_sub-i
overflow_sub-i c = no-boundary-pos _ _ (sym c.is_boundary.ensures ∙ not-true _ c.loop-i-test.true-raw)

pub loop-i-smaller : goal.loop-i-smaller
loop-i-smaller c = let h = no-boundary-pos _ _ (sym c.is_boundary.ensures ∙ not-true _ c.loop-i-test.true-raw) in omega arith

pub loop-i-preserved : goal.loop-i-preserved
loop-i-preserved c = (omega arith, last-down _ _ (sym c.is_boundary.ensures ∙ not-true _ c.loop-i-test.true-raw) ∙ c.loop-i.invariant.1)

pub returns : goal.returns
returns c = (
  sym (last-at _ _ (sym c.is_boundary.ensures ∙ not-false _ c.loop-i-test.false-raw)) ∙ c.loop-i.invariant.1 ∙ sym (floor-in _ _ (omega arith)),
  omega arith,
)
