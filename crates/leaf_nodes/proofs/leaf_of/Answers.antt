-- `leaf_of` meets its contract: for each answer of `head_of`.
use Rattle.std.specs.Prelude.{Ok}
use Rattle.answer.proofs.Opened.{raised}
use mathlib.Core.Path.{refl, ap, ◌∙◌}
use Rattle.nodes.proofs.Heads.{head-leaf, head-list, head-free, head-none, list-no-leaf, head-no-leaf}
use Rattle.leaf_nodes.proofs.Opened.{size_is, size-not}
use Rattle.leaf_nodes.proofs.leaf_of.Goals as goal

pub returns : goal.returns
returns c =
    let a = c.args in
    let h = head-leaf a.m.now a.slot c.head_of.result c.head_of.ensures _ (c.in_ok-n.was ∙ ap Ok c.in-Leaf.is) in
    size_is a.m.now a.slot _ h.0 h.1

pub returns-in_err-n : goal.returns-in_err-n
returns-in_err-n c = rw (raised c.from_residual.ensures.1) (
    let a = c.args in
    let h = head-none a.m.now a.slot c.head_of.result c.head_of.ensures _ c.in_err-n.was in
    size-not a.m.now a.slot _ h.0 h.2)

pub returns-in_default : goal.returns-in_default
returns-in_default c =
    let a = c.args in
    size-not a.m.now a.slot 2 (head-no-leaf a.m.now a.slot _ c.head_of.ensures _ c.in_ok-n.was c.in_default.not-Leaf) refl
