-- `grow` meets its contract: no such slot, too high a tree, or a list raised above the two.
use mathlib.Core.Path.{refl, sym, ◌∙◌}
use native.Mathlib.Omega.{arith}
use Rattle.root_step.proofs.Rules.{did-is, did-as, pair-never, pair-are, pair-ready, not_last, grown-far, grown-high, grow-done}
use Rattle.root_step.proofs.grow.Goals as goal

pub returns-then-right-gt-LAST_SLOT : goal.returns-then-right-gt-LAST_SLOT
returns-then-right-gt-LAST_SLOT c =
    let a = c.args in
    did-is _ _ _ _ _ (grown-far a.m.now a.left a.right a.other c.if-right-gt-LAST_SLOT.true) refl refl

pub returns-then-h : goal.returns-then-h
returns-then-h c =
    let a = c.args in
    did-is _ _ _ _ _ (grown-high a.m.now a.left a.right a.other c.if-right-gt-LAST_SLOT.false (sym c.height-h.ensures ∙ c.if-h.true)) refl refl

pub returns-in_err-both : goal.returns-in_err-both
returns-in_err-both c =
    let p = c.pair-both in
    pair-never _ _ p.result p.ensures _ c.in_err-both.was

pub raise-requires : goal.raise-requires
raise-requires c =
    let h = c.height-h in
    let p = c.pair-both in
    let t = pair-ready _ _ p.result p.ensures in
    (t.0, t.1, not_last h.result (omega (arith, h.type_inv)) c.if-h.false)

pub returns : goal.returns
returns c =
    let a = c.args in
    let p = c.pair-both in
    did-as _ _ _ _ (grow-done a.m.now a.left a.right a.other c.if-right-gt-LAST_SLOT.false _ c.height-h.ensures c.if-h.false _ (pair-are _ _ p.result p.ensures)) c.raise.ensures
