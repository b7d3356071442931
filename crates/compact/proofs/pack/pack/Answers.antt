-- `pack` meets its contract: the left slot holds a leaf.
use Rattle.std.specs.Prelude.{Ok}
use mathlib.Core.Path.{sym, ◌∙◌, ap}
use mathlib.Core.Bool.{true≢false}
use Rattle.nodes.proofs.Heads.{list-no-leaf, head-leaf, head-list, head-free, head-none}
use Rattle.child_info.proofs.TextRead.{text-size}
use Rattle.compact.proofs.pack.pack.Goals as goal

pub pack_behind-requires : goal.pack_behind-requires
pack_behind-requires c =
    let a = c.args in
    let p = c.requires in
    let h = head-leaf a.m.now a.l c.head_of.result c.head_of.ensures _ (c.in_ok-a.was ∙ ap Ok c.in-Leaf.is) in
    (p, sym ((text-size a.m.now a.l h.0).0 ∙ h.1))

pub returns-in-List : goal.returns-in-List
returns-in-List c =
    let a = c.args in
    let p = c.requires in
    absurd (true≢false (sym p.left.leaf ∙ list-no-leaf a.m.now a.l (head-list a.m.now a.l c.head_of.result c.head_of.ensures _ (c.in_ok-a.was ∙ ap Ok c.in-List.is)).0))

pub returns-in-Free : goal.returns-in-Free
returns-in-Free c =
    let a = c.args in
    let p = c.requires in
    absurd (true≢false (sym p.left.leaf ∙ (head-free a.m.now a.l c.head_of.result c.head_of.ensures _ (c.in_ok-a.was ∙ ap Ok c.in-Free.is)).0))

pub returns-in_err-a : goal.returns-in_err-a
returns-in_err-a c =
    let a = c.args in
    let p = c.requires in
    absurd (true≢false (sym p.left.leaf ∙ (head-none a.m.now a.l c.head_of.result c.head_of.ensures _ c.in_err-a.was).0))
