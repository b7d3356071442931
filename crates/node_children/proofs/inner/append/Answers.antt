-- `append` meets its contract. Each turn puts the next child behind the others.
use mathlib.Core.Path.{◌≡◌, sym, ap}
use mathlib.Core.List.{◌++◌}
use Prim.Native.Nat.{ℕ, ◌+◌, ◌-◌}
use native.Mathlib.Omega.{arith}
use lib.ListN.{take, drop, length-map}
use lib.Seq.{get_or-take}
use Rattle.pool.specs.Slot.{no_kid}
use Rattle.node_children.specs.Kids.{kids}
use Rattle.node_children.proofs.Lists.{kids-length, holds_same, append-start, append-turn}
use Rattle.node_children.proofs.inner.append.Goals as goal

pub loop-i-init : goal.loop-i-init
loop-i-init c =
    (omega arith, omega arith, c.well_formed.1.0.1.1.1.0.1.0.1, append-start c.args.into c.args.from c.args.start c.requires.4)

pub offset_bounds-from-i : goal.offset_bounds-from-i
offset_bounds-from-i c = omega arith

pub bounds-from-i : goal.bounds-from-i
bounds-from-i c = omega arith

pub put-list-requires : goal.put-list-requires
put-list-requires c = let l = c.loop-i in (omega (arith, l.invariant.3.len), l.invariant.3.clean)

pub overflow_add-i : goal.overflow_add-i
overflow_add-i c = omega arith

pub loop-i-smaller : goal.loop-i-smaller
loop-i-smaller c = omega arith

pub loop-i-preserved : goal.loop-i-preserved
loop-i-preserved c =
    let l = c.loop-i in
    let a = c.args in
    let w = kids-length a.from (omega arith) l.invariant.2 in
    let g = sym (get_or-take a.from.len a.from.arr l.i no_kid (omega arith)) in (
      omega arith,
      omega arith,
      l.invariant.2,
      append-turn (kids a.into) (kids a.from) a.start l.i a.into.len l.list c.put-list.result _ (omega arith) (omega arith) g l.invariant.3 c.put-list.ensures,
    )

pub returns : goal.returns
returns c =
    let l = c.loop-i in
    let a = c.args in
    let e : l.i ≡ a.end = omega arith in
    holds_same l.list _ _ _ _ (omega arith) (ap (λ (n : ℕ). kids a.into ++ drop a.start (take n (kids a.from))) e) l.invariant.3
