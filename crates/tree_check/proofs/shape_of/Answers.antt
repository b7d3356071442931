-- `shape_of` meets its contract: for each answer of `head_of`.
use Rattle.std.specs.Prelude.{Ok}
use mathlib.Core.Path.{ap, ◌∙◌}
use Rattle.nodes.proofs.Heads.{leaf-no-list, list-no-leaf, head-leaf, head-list, head-free, head-none}
use Rattle.tree_check.proofs.Nodes.{not-leaf, not-list, no_node, too_small}
use Rattle.tree_check.proofs.shape_of.Goals as goal

pub returns-then-level-ne0 : goal.returns-then-level-ne0
returns-then-level-ne0 c =
    let a = c.args in
    let h = head-leaf a.m.now a.slot c.head_of.result c.head_of.ensures _ (c.in-Ok-Leaf.is ∙ ap Ok c.in-Ok-Leaf.field-0-is) in
    not-list a.m.now a.least a.level a.slot c.if-level-ne0.true (leaf-no-list a.m.now a.slot h.0)

pub returns-then-n-least : goal.returns-then-n-least
returns-then-n-least c =
    let a = c.args in
    let h = head-leaf a.m.now a.slot c.head_of.result c.head_of.ensures _ (c.in-Ok-Leaf.is ∙ ap Ok c.in-Ok-Leaf.field-0-is) in
    too_small a.m.now a.least a.level a.slot _ h.1 c.if-n-least.true

pub returns-then-level-eq0 : goal.returns-then-level-eq0
returns-then-level-eq0 c =
    let a = c.args in
    let h = head-list a.m.now a.slot c.head_of.result c.head_of.ensures _ (c.in-Ok-List.is ∙ ap Ok c.in-Ok-List.field-0-is) in
    not-leaf a.m.now a.least a.level a.slot c.if-level-eq0.true (list-no-leaf a.m.now a.slot h.0)

pub returns-then-n-least-2 : goal.returns-then-n-least-2
returns-then-n-least-2 c =
    let a = c.args in
    let h = head-list a.m.now a.slot c.head_of.result c.head_of.ensures _ (c.in-Ok-List.is ∙ ap Ok c.in-Ok-List.field-0-is) in
    too_small a.m.now a.least a.level a.slot _ h.1 c.if-n-least-2.true

pub returns-else-n-least : goal.returns-else-n-least
returns-else-n-least c =
    let a = c.args in
    let h = head-leaf a.m.now a.slot c.head_of.result c.head_of.ensures _ (c.in-Ok-Leaf.is ∙ ap Ok c.in-Ok-Leaf.field-0-is) in
    record { height = c.if-level-ne0.false; leaf = h.0; len = h.1; size = c.if-n-least.false; few = h.2 }

pub returns-else-n-least-2 : goal.returns-else-n-least-2
returns-else-n-least-2 c =
    let a = c.args in
    let h = head-list a.m.now a.slot c.head_of.result c.head_of.ensures _ (c.in-Ok-List.is ∙ ap Ok c.in-Ok-List.field-0-is) in
    record { height = c.if-level-eq0.false; list = h.0; len = h.1; size = c.if-n-least-2.false; few = h.2 }

pub returns-in-Ok-Free : goal.returns-in-Ok-Free
returns-in-Ok-Free c =
    let a = c.args in
    let h = head-free a.m.now a.slot c.head_of.result c.head_of.ensures _ (c.in-Ok-Free.is ∙ ap Ok c.in-Ok-Free.field-0-is) in
    no_node a.m.now a.least a.level a.slot h.0 h.1

pub returns-in-Err : goal.returns-in-Err
returns-in-Err c =
    let a = c.args in
    let h = head-none a.m.now a.slot c.head_of.result c.head_of.ensures _ c.in-Err.is in
    no_node a.m.now a.least a.level a.slot h.0 h.1
