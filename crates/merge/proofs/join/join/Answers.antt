-- `join` meets its contract.
use Rattle.std.specs.Prelude.{Ok}
use mathlib.Core.Path.{sym, ◌∙◌, ap}
use Rattle.nodes.proofs.Heads.{head-leaf, head-list, head-free, head-none}
use Rattle.nodes.proofs.Accepted.{text-length}
use Rattle.merge.proofs.JoinedLists.{both-leaves, both-lists, some-node, leaves-joined, lists-joined}
use Rattle.merge.proofs.join.join.Goals as goal

pub join_leaves-requires : goal.join_leaves-requires
join_leaves-requires c =
    let a = c.args in
    let o = c.head_of in
    let h = head-leaf a.m.now a.a o.result o.ensures _ (c.in_ok-n.was ∙ ap Ok c.in-Leaf.is) in
    (both-leaves a.m.now a.a a.b c.requires h.0, sym (text-length a.m.now a.a h.0 ∙ h.1))

pub join_lists-requires : goal.join_lists-requires
join_lists-requires c =
    let a = c.args in
    let o = c.head_of in
    let h = head-list a.m.now a.a o.result o.ensures _ (c.in_ok-n.was ∙ ap Ok c.in-List.is) in
    (h.0, both-lists a.m.now a.a a.b c.requires h.0)

pub returns-in-Leaf : goal.returns-in-Leaf
returns-in-Leaf c =
    let a = c.args in
    let o = c.head_of in
    let h = head-leaf a.m.now a.a o.result o.ensures _ (c.in_ok-n.was ∙ ap Ok c.in-Leaf.is) in
    leaves-joined a.m.now a.a a.b _ _ h.0 c.join_leaves.ensures

pub returns-in-List : goal.returns-in-List
returns-in-List c =
    let a = c.args in
    let o = c.head_of in
    let h = head-list a.m.now a.a o.result o.ensures _ (c.in_ok-n.was ∙ ap Ok c.in-List.is) in
    lists-joined a.m.now a.a a.b _ _ h.0 c.join_lists.ensures

pub returns-in-Free : goal.returns-in-Free
returns-in-Free c =
    let a = c.args in
    let o = c.head_of in
    let h = head-free a.m.now a.a o.result o.ensures _ (c.in_ok-n.was ∙ ap Ok c.in-Free.is) in
    absurd (some-node a.m.now a.a a.b c.requires h.0 h.1)

pub returns-in_err-n : goal.returns-in_err-n
returns-in_err-n c =
    let a = c.args in
    let o = c.head_of in
    let h = head-none a.m.now a.a o.result o.ensures _ c.in_err-n.was in
    absurd (some-node a.m.now a.a a.b c.requires h.0 h.1)
