-- `text_info` meets its contract: for each answer of `head_of`.
use Rattle.std.specs.Prelude.{Ok}
use Rattle.answer.proofs.Opened.{raised}
use mathlib.Core.Path.{refl, ap, ◌∙◌}
use native.Mathlib.Omega.{arith}
use Rattle.nodes.proofs.Heads.{not-outside, leaf-says, list-says, head-leaf, head-list, head-free, head-none}
use Rattle.nodes.proofs.Rules.{counted-leaf, counted-list, counted-not}
use Rattle.nodes.proofs.text_info.Goals as goal

pub leaf_info-requires : goal.leaf_info-requires
leaf_info-requires c =
    let a = c.args in
    let h = head-leaf a.m.now a.slot c.head_of.result c.head_of.ensures _ (c.in_ok-n.was ∙ ap Ok c.in-Leaf.is) in
    (not-outside a.m.now a.slot (leaf-says a.m.now a.slot h.0).0, omega arith)

pub entries_info-requires : goal.entries_info-requires
entries_info-requires c =
    let a = c.args in
    let h = head-list a.m.now a.slot c.head_of.result c.head_of.ensures _ (c.in_ok-n.was ∙ ap Ok c.in-List.is) in
    (not-outside a.m.now a.slot (list-says a.m.now a.slot h.0).0, omega arith)

pub returns-in-Leaf : goal.returns-in-Leaf
returns-in-Leaf c =
    let a = c.args in
    let h = head-leaf a.m.now a.slot c.head_of.result c.head_of.ensures _ (c.in_ok-n.was ∙ ap Ok c.in-Leaf.is) in
    counted-leaf a.m.now a.slot _ c.leaf_info.result h.0 h.1 h.2 c.leaf_info.ensures

pub returns-in-List : goal.returns-in-List
returns-in-List c =
    let a = c.args in
    let r = c.head_of in
    let h = head-list a.m.now a.slot r.result r.ensures _ (c.in_ok-n.was ∙ ap Ok c.in-List.is) in
    counted-list a.m.now a.slot _ c.entries_info.result h.0 h.1 h.2 c.entries_info.ensures

pub returns-in-Free : goal.returns-in-Free
returns-in-Free c =
    let a = c.args in
    let h = head-free a.m.now a.slot c.head_of.result c.head_of.ensures _ (c.in_ok-n.was ∙ ap Ok c.in-Free.is) in
    counted-not a.m.now a.slot _ h.0 h.1 refl

pub returns-in_err-n : goal.returns-in_err-n
returns-in_err-n c = rw (raised c.from_residual.ensures.1) (
    let a = c.args in
    let h = head-none a.m.now a.slot c.head_of.result c.head_of.ensures _ c.in_err-n.was in
    counted-not a.m.now a.slot _ h.0 h.1 h.2)
