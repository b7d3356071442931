-- `twice` meets its contract.
use mathlib.Core.Path.{refl, sym, ap, ◌∙◌}
use Prim.Native.Nat.{ℕ, ◌+◌, ◌-◌}
use native.Mathlib.Omega.{arith}
use lib.ListN.{drop, length-map}
use lib.Seq.{get_or-take}
use Rattle.pool.specs.declared.Kid.{Kid}
use Rattle.pool.specs.Slot.{no_kid}
use Rattle.node_children.specs.Kids.{kids}
use Rattle.node_children.proofs.Lists.{kids-length}
use Rattle.child_info.specs.Kin.{slots_of, among, repeats}
use Rattle.child_info.proofs.Turns.{turn-hit, turn_on, turn_end, repeats-law}
use Rattle.child_info.proofs.checks.twice.Goals as goal

pub loop-i-init : goal.loop-i-init
loop-i-init c = (omega arith, c.well_formed.0.1.1.1.0.1.0.1, refl)

pub overflow_add-i : goal.overflow_add-i
overflow_add-i c = omega arith

pub offset_bounds-list-i : goal.offset_bounds-list-i
offset_bounds-list-i c = omega arith

pub bounds-list-i : goal.bounds-list-i
bounds-list-i c = omega arith

pub place-requires : goal.place-requires
place-requires c = tt

pub meets-requires : goal.meets-requires
meets-requires c = (omega arith, omega arith)

pub returns-then-meets : goal.returns-then-meets
returns-then-meets c =
    let l = c.loop-i in
    let a = c.args in
    let w = kids-length a.list (omega arith) l.invariant.1 in
    let g = ap (λ (k : Kid). k.slot) (get_or-take a.list.len a.list.arr l.i no_kid (omega arith)) in
    turn-hit (λ ks. repeats (slots_of ks)) _ repeats-law (kids a.list) l.i (omega arith) (ap (λ (n : ℕ). among n (slots_of (drop (l.i + 1) (kids a.list)))) (g ∙ sym c.place.ensures) ∙ sym c.meets.ensures ∙ c.if-meets.true) ∙ l.invariant.2

pub overflow_add-i-in-loop-i : goal.overflow_add-i-in-loop-i
overflow_add-i-in-loop-i c = omega arith

pub loop-i-smaller : goal.loop-i-smaller
loop-i-smaller c = omega arith

pub loop-i-preserved : goal.loop-i-preserved
loop-i-preserved c =
    let l = c.loop-i in
    let a = c.args in
    let w = kids-length a.list (omega arith) l.invariant.1 in
    let g = ap (λ (k : Kid). k.slot) (get_or-take a.list.len a.list.arr l.i no_kid (omega arith)) in
    (omega arith, l.invariant.1, turn_on (λ ks. repeats (slots_of ks)) _ repeats-law (kids a.list) l.i (omega arith) (ap (λ (n : ℕ). among n (slots_of (drop (l.i + 1) (kids a.list)))) (g ∙ sym c.place.ensures) ∙ sym c.meets.ensures ∙ c.if-meets.false) ∙ l.invariant.2)

pub returns : goal.returns
returns c =
    let l = c.loop-i in
    let a = c.args in
    let w = kids-length a.list (omega arith) l.invariant.1 in
    turn_end (λ ks. repeats (slots_of ks)) _ repeats-law (kids a.list) l.i (omega arith) ∙ l.invariant.2
