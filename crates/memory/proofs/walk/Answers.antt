-- `walk` meets its contract: by what `Walking` keeps.
use mathlib.Core.Path.{refl, sym, ap, subst, ◌∙◌}
use Prim.Native.Nat.{ℕ, ◌-◌}
use native.Mathlib.Omega.{arith}
use lib.ListN.{length}
use Rattle.plain_note.specs.Note.{need}
use Rattle.std.specs.Prelude.{Option}
use Rattle.memory.specs.Checks.{Stepped, Took}
use Rattle.memory.proofs.Walking.{walk_start, walk-on, walk-row, walk-there, walk-stuck, walk-done}
use Rattle.memory.proofs.walk.Goals as goal

pub loop-left-init : goal.loop-left-init
loop-left-init c = let a = c.args in walk_start a.m.now (length a.seen.now) a.first a.seen.now refl

pub returns-then-at-n : goal.returns-then-at-n
returns-then-at-n c =
    let a = c.args in
    walk-there a.m.now (length a.seen.now) a.first a.seen.now c.loop-left.seen c.loop-left.left c.loop-left.at c.loop-left.invariant c.if-at-n.true

pub take_free-requires : goal.take_free-requires
take_free-requires c =
    c.requires ∙ ap need (sym c.loop-left.invariant.size)

pub shape_of-seen-in_default : goal.shape_of-seen-in_default
shape_of-seen-in_default c =
    let k = c.take_free in
    k.auto.seen ∙ c.loop-left.invariant.size

pub returns-in_default : goal.returns-in_default
returns-in_default c =
    let k = c.take_free in
    let a = c.args in
    walk-stuck a.m.now (length a.seen.now) a.first a.seen.now c.loop-left.seen c.loop-left.left c.loop-left.at c.loop-left.invariant (omega arith) c.if-at-n.false
    (subst (λ (r : Option ℕ). Stepped a.m.now c.loop-left.seen k.new.seen c.loop-left.at r) c.in_default.is k.ensures)

pub take_row-k-requires : goal.take_row-k-requires
take_row-k-requires c =
    let k = c.take_free in
    let same = k.auto.seen ∙ c.loop-left.invariant.size in
    (c.requires ∙ ap need (sym same), omega (arith, same, c.row_most.ensures.1))

pub loop-left-preserved : goal.loop-left-preserved
loop-left-preserved c =
    let r = c.take_row-k in
    let k = c.take_free in
    let a = c.args in
    let t : Took a.m.now c.loop-left.seen k.new.seen c.loop-left.at c.in-Some.next =
    subst (λ (r : Option ℕ). Stepped a.m.now c.loop-left.seen k.new.seen c.loop-left.at r) c.in-Some.is k.ensures in
    let one = walk-on a.m.now (length a.seen.now) a.first a.seen.now c.loop-left.seen k.new.seen c.loop-left.left c.loop-left.at c.in-Some.next c.loop-left.invariant (omega arith) t in
    walk-row a.m.now (length a.seen.now) a.first a.seen.now k.new.seen (c.loop-left.left - 1) c.in-Some.next one r.result r.new.seen
    (omega (arith, r.ensures.0, c.row_most.ensures.0)) r.ensures.1

pub returns : goal.returns
returns c =
    let a = c.args in
    walk-done a.m.now (length a.seen.now) a.first a.seen.now c.loop-left.seen c.loop-left.left c.loop-left.at c.loop-left.invariant (omega arith)
