-- `read_list` meets its contract: each turn reads one entry and sets it behind the others.
use mathlib.Core.Path.{◌≡◌, refl, ap, ◌∙◌}
use Prim.Native.Nat.{ℕ}
use native.Mathlib.Omega.{arith}
use mathlib.Core.List.{[]}
use lib.ListN.{take}
use Rattle.pool.specs.Slot.{region_of, entries}
use Rattle.pool.proofs.Kids.{entries-length}
use Rattle.pool.proofs.Opened.{entry-opened, entry-there}
use Rattle.node_children.specs.Kids.{list_of}
use Rattle.node_children.proofs.Rules.{listing-done}
use Rattle.nodes.proofs.Heads.{inside}
use Rattle.nodes.proofs.Rules.{read-turn}
use Rattle.nodes.proofs.read_list.Goals as goal

pub loop-i-init : goal.loop-i-init
loop-i-init c = (omega arith, c.new-list.ensures)

pub returns-in-Err : goal.returns-in-Err
returns-in-Err c =
    let a = c.args in
    let p = c.requires in
    let k = c.kid_of in
    absurd (entry-there k.result a.m.now a.slot _ _ k.ensures c.in-Err.is (inside a.m.now a.slot p.0) (omega arith))

pub offset_bounds-list-i : goal.offset_bounds-list-i
offset_bounds-list-i c = omega arith

pub bounds-list-i : goal.bounds-list-i
bounds-list-i c = omega arith

pub overflow_add-i : goal.overflow_add-i
overflow_add-i c = omega arith

pub loop-i-smaller : goal.loop-i-smaller
loop-i-smaller c = omega arith

pub loop-i-preserved : goal.loop-i-preserved
loop-i-preserved c =
    let a = c.args in
    let l = c.loop-i in
    let o = entry-opened c.kid_of.result a.m.now a.slot l.i _ c.kid_of.ensures c.in-Ok.is in
    (omega arith, read-turn l.list (entries (region_of a.m.now a.slot)) l.i _ (entries-length (region_of a.m.now a.slot)) o.1 l.invariant.1 o.2)

pub returns : goal.returns
returns c =
    let a = c.args in
    let l = c.loop-i in
    let z : l.i ≡ a.n = omega arith in
    listing-done _ (list_of []) _ l.list refl (l.invariant.1 ∙ ap (λ (k : ℕ). list_of (take k (entries (region_of a.m.now a.slot)))) z)
