-- `load` meets its contract: for each answer of `head_of`.
use Rattle.std.specs.Prelude.{Ok}
use mathlib.Core.Path.{refl, ap, ◌∙◌}
use native.Mathlib.Omega.{arith}
use Rattle.nodes.proofs.Heads.{not-outside, leaf-no-list, list-says, head-leaf, head-list, head-free, head-none}
use Rattle.nodes.proofs.Rules.{load-done, load-not}
use Rattle.nodes.proofs.load.Goals as goal

pub read_list-requires : goal.read_list-requires
read_list-requires c =
    let a = c.args in
    let r = c.head_of in
    let h = head-list a.m.now a.slot r.result r.ensures _ (c.in-Ok-List.is ∙ ap Ok c.in-Ok-List.field-0-is) in
    (not-outside a.m.now a.slot (list-says a.m.now a.slot h.0).0, omega arith)

pub returns-in-Ok-List : goal.returns-in-Ok-List
returns-in-Ok-List c =
    let a = c.args in
    let r = c.head_of in
    let h = head-list a.m.now a.slot r.result r.ensures _ (c.in-Ok-List.is ∙ ap Ok c.in-Ok-List.field-0-is) in
    load-done a.m.now a.slot _ _ h.0 h.1 c.read_list.ensures

pub returns-in-Ok-Leaf : goal.returns-in-Ok-Leaf
returns-in-Ok-Leaf c =
    let a = c.args in
    let r = c.head_of in
    let h = head-leaf a.m.now a.slot r.result r.ensures _ (c.in-Ok-Leaf.is ∙ ap Ok c.in-Ok-Leaf.field-0-is) in
    load-not a.m.now a.slot _ _ (leaf-no-list a.m.now a.slot h.0) refl c.no_list.ensures

pub returns-in-Ok-Free : goal.returns-in-Ok-Free
returns-in-Ok-Free c =
    let a = c.args in
    let r = c.head_of in
    let h = head-free a.m.now a.slot r.result r.ensures _ (c.in-Ok-Free.is ∙ ap Ok c.in-Ok-Free.field-0-is) in
    load-not a.m.now a.slot _ _ h.1 refl c.no_list-in-Ok-Free.ensures

pub returns-in-Err : goal.returns-in-Err
returns-in-Err c =
    let a = c.args in
    let r = c.head_of in
    let h = head-none a.m.now a.slot r.result r.ensures _ c.in-Err.is in
    load-not a.m.now a.slot _ _ h.1 h.2 c.no_list-in-Err.ensures
