-- `write_entries` meets its contract: each turn writes the next entry.
use mathlib.Core.Path.{refl, ap, ◌∙◌}
use native.Mathlib.Omega.{arith}
use lib.ListN.{length, get_or}
use Rattle.pool.specs.Slot.{no_kid}
use Rattle.pool.proofs.Opened.{wrote-never}
use Rattle.pool.proofs.Slots.{kid-size}
use Rattle.nodes.proofs.Heads.{inside}
use Rattle.nodes.proofs.Rules.{kid_is, kid-set, put-turn, put-end, fits-turn}
use Rattle.nodes.proofs.write_entries.Goals as goal

pub loop-i-init : goal.loop-i-init
loop-i-init c = (omega arith, c.well_formed.1.1.0.1.1.1.0.1.0.1, refl, refl, λ j h. absurd (omega arith))

pub offset_bounds-list-i : goal.offset_bounds-list-i
offset_bounds-list-i c = omega arith

pub bounds-list-i : goal.bounds-list-i
bounds-list-i c = omega arith

pub returns-in_err-set_kid : goal.returns-in_err-set_kid
returns-in_err-set_kid c =
    let a = c.args in
    let l = c.loop-i in
    let s = c.set_kid in
    let h = inside a.m.now a.slot c.requires in
    wrote-never _ _ s.result _ s.ensures.0 _ (kid_is l.m a.slot l.i (get_or a.list.arr l.i no_kid) (omega arith) (omega arith)) _ c.in_err-set_kid.was

pub overflow_add-i : goal.overflow_add-i
overflow_add-i c = omega arith

pub loop-i-smaller : goal.loop-i-smaller
loop-i-smaller c = omega arith

pub loop-i-preserved : goal.loop-i-preserved
loop-i-preserved c =
    let a = c.args in
    let l = c.loop-i in
    let s = c.set_kid in
    let k = get_or a.list.arr l.i no_kid in
    let h = inside a.m.now a.slot c.requires in
    let e = kid-set l.m a.slot l.i k s.result _ s.ensures.0 (omega arith) (omega arith) in
    (omega arith, l.invariant.1, ap length e ∙ kid-size l.m a.slot l.i k (omega arith) (omega arith) ∙ l.invariant.2, put-turn l.m _ _ a.slot l.i a.list.arr (omega arith) e l.invariant.3, fits-turn a.list.arr l.i l.invariant.4 s.ensures.1)

pub returns : goal.returns
returns c =
    let a = c.args in
    let l = c.loop-i in
    (refl, put-end l.m a.slot l.i a.list.arr (omega arith) ∙ l.invariant.3, record { sixteen = l.invariant.1; each = λ j h. l.invariant.4 j (omega arith) })
