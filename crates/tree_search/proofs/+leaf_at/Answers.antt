-- `leaf_at` meets its contract; the height falls.
use native.Mathlib.Omega.{arith}
use Rattle.answer.proofs.Opened.{raised, passed}
use Rattle.tree_search.proofs.Rules.{leaf-here, leaf-refused, below-refused, below-found, bounded_at, narrow_at, no-sums, sums-within, within-less}
use Prim.Native.Nat.{◌-◌, ◌*◌, ◌<◌}
use Rattle.tree_search.proofs.+leaf_at.Goals as goal

pub returns-then-level-eq0 : goal.returns-then-level-eq0
returns-then-level-eq0 t c =
    let a = c.args in
    (leaf-here a.m.now a.by a.at a.level a.slot _ c.if-level-eq0.true c.new.ensures, no-sums _ a.level c.new.ensures)

pub returns-in_err-leaf : goal.returns-in_err-leaf
returns-in_err-leaf t c =
    let a = c.args in
    rw (passed c.in_err-leaf.was c.from_residual-in_err-leaf.ensures.1) (below-refused a.m.now a.by a.at a.level a.slot (omega (arith, c.if-level-eq0.false)) _ c.child_at.ensures.0 _ _ _ c.in_ok-kid.was _ _
    c.rest.ensures c.leaf_at.ensures.0 _ c.in_err-leaf.was)

pub joined-requires : goal.joined-requires
joined-requires t c =
    let a = c.args in (
      narrow_at _ _ _ _ c.child_at.ensures.1 c.in_ok-kid.was,
      within-less _ (16 * (a.level - 1)) 4080 (omega arith) (bounded_at (a.level - 1) _ _ _ c.leaf_at.ensures.1 c.in_ok-leaf.was),
    )

pub returns-in_err-kid : goal.returns-in_err-kid
returns-in_err-kid t c =
    let a = c.args in
    rw (raised c.from_residual.ensures.1) (leaf-refused a.m.now a.by a.at a.level a.slot (omega (arith, c.if-level-eq0.false)) _ c.child_at.ensures.0 _ c.in_err-kid.was, tt)

pub returns : goal.returns
returns t c =
    let a = c.args in
    let some : 0 < a.level = omega (arith, c.if-level-eq0.false) in (
      below-found a.m.now a.by a.at a.level a.slot some _ c.child_at.ensures.0 _ _ _ c.in_ok-kid.was _ _
          c.rest.ensures c.leaf_at.ensures.0 _ _ _ c.in_ok-leaf.was c.joined.ensures,
      sums-within _ _ _ a.level some (narrow_at _ _ _ _ c.child_at.ensures.1 c.in_ok-kid.was) (bounded_at (a.level - 1) _ _ _ c.leaf_at.ensures.1 c.in_ok-leaf.was) c.joined.ensures,
    )
