-- `relist` meets its contract: each turn counts the next entry anew, and none is refused.
use mathlib.Core.Path.{refl, sym, ap, ◌∙◌}
use mathlib.Core.List.{List}
use Prim.Native.Nat.{ℕ, ◌-◌}
use native.Mathlib.Omega.{arith}
use lib.ListN.{length}
use Rattle.node_children.specs.declared.NodeChildren.{NodeChildren}
use Rattle.node_children.specs.Kids.{kids}
use Rattle.node_children.proofs.Lists.{clean-length}
use Rattle.nodes.specs.Node.{list_put}
use Rattle.compact.specs.Pack.{renewed_from}
use Rattle.compact.proofs.Relisted.{stored-never, stored-memory, rows_start, rows-size, rows-turn, rows_end, update-never}
use Rattle.compact.proofs.relist.Goals as goal

pub returns-in_err-store : goal.returns-in_err-store
returns-in_err-store c =
    let a = c.args in
    let p = c.requires in
    stored-never a.m.now a.slot a.list p c.store.result _ c.store.ensures _ c.in_err-store.was

pub loop-i-init : goal.loop-i-init
loop-i-init c =
    let a = c.args in
    let p = c.requires in
    rows_start a.m.now a.slot a.list p c.store.result _ c.store.ensures

pub returns-in_err-update_child_info : goal.returns-in_err-update_child_info
returns-in_err-update_child_info c =
    let a = c.args in
    let l = c.loop-i in
    update-never _ a.slot a.list l.m l.i l.invariant (omega arith) c.update_child_info.result _ c.update_child_info.ensures _ c.in_err-update_child_info.was

pub overflow_add-i : goal.overflow_add-i
overflow_add-i c = omega arith

pub loop-i-smaller : goal.loop-i-smaller
loop-i-smaller c = omega arith

pub loop-i-preserved : goal.loop-i-preserved
loop-i-preserved c =
    let a = c.args in
    let l = c.loop-i in
    rows-turn _ a.slot a.list l.m l.i l.invariant (omega arith) c.update_child_info.result _ c.update_child_info.ensures

pub shape_of-m : goal.shape_of-m
shape_of-m c =
    let a = c.args in
    let p = c.requires in
    c.loop-i.invariant.size ∙ rows-size a.m.now a.slot a.list p c.store.result _ c.store.ensures

pub returns : goal.returns
returns c =
    let a = c.args in
    let p = c.requires in
    let l = c.loop-i in
    let whole =
    rows_end _ a.slot a.list l.m l.i l.invariant (omega arith)
    ∙ ap (λ (x : List ℕ). renewed_from x a.slot 0 a.list.len) (stored-memory a.m.now a.slot a.list p c.store.result _ c.store.ensures)
    ∙ ap (λ (n : ℕ). renewed_from (list_put a.m.now a.slot a.list) a.slot 0 n) (sym (clean-length a.list p.2))
    ∙ ap (λ (x : NodeChildren). renewed_from (list_put a.m.now a.slot x) a.slot 0 (length (kids a.list))) p.2 in
    record { answered = refl; memory = whole }
