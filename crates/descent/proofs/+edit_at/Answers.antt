-- `edit_at` meets its contract; the level falls.
use mathlib.Core.Path.{refl}
use native.Mathlib.Omega.{arith}
use Rattle.answer.proofs.Opened.{raised}
use Rattle.descent.proofs.Rules.{at_leaf, no-child, in-child}
use Rattle.descent.proofs.+edit_at.Goals as goal

pub shape_of-m-then-level-eq0 : goal.shape_of-m-then-level-eq0
shape_of-m-then-level-eq0 t c = c.edit_part.auto.m

pub returns-then-level-eq0 : goal.returns-then-level-eq0
returns-then-level-eq0 t c =
    let a = c.args in
    at_leaf a.m.now a.level a.slot a.by a.at a.part a.piece.now _ _ c.if-level-eq0.true c.edit_part.ensures

pub returns-in_err-idx : goal.returns-in_err-idx
returns-in_err-idx t c = rw (raised c.from_residual.ensures.1) (
    let a = c.args in
    no-child a.m.now a.slot a.by a.at a.part a.piece.now a.level (omega (arith, c.if-level-eq0.false)) _ c.child_at.ensures.0 _ _ c.in_err-idx.was refl)

pub returns-in_err-made : goal.returns-in_err-made
returns-in_err-made t c = rw (raised c.from_residual-in_err-made.ensures.1) (
    let a = c.args in
    in-child a.m.now a.slot a.by a.at a.part a.piece.now a.level (omega (arith, c.if-level-eq0.false)) _ c.child_at.ensures.0 _ _ _ c.in_ok-idx.was _ c.rest.ensures _ _
    c.edit_at.ensures _ c.in_err-made.was _ _ (record { answered = refl; memory = refl }))

pub returns : goal.returns
returns t c =
    let a = c.args in
    in-child a.m.now a.slot a.by a.at a.part a.piece.now a.level (omega (arith, c.if-level-eq0.false)) _ c.child_at.ensures.0 _ _ _ c.in_ok-idx.was _ c.rest.ensures _ _
    c.edit_at.ensures _ c.in_ok-made.was _ _ c.rise.ensures
