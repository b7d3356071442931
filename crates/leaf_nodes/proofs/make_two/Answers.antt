-- `make_two` meets its contract: the heads are set one after the other.
use mathlib.Core.Path.{refl, ap, ◌∙◌}
use mathlib.Core.List.{List}
use Prim.Native.Nat.{ℕ}
use Rattle.answer.proofs.Opened.{never-refused}
use Rattle.nodes.specs.Node.{leaf_put}
use Rattle.nodes.proofs.Heads.{inside}
use Rattle.nodes.proofs.Laid.{leaf-set}
use Rattle.leaf_nodes.proofs.Opened.{set-never, still-there}
use Rattle.leaf_nodes.proofs.make_two.Goals as goal

pub lay-requires : goal.lay-requires
lay-requires c =
    let a = c.args in
    (still-there a.m.now a.slot a.l (inside a.m.now a.slot c.requires.0) c.requires.2 c.set_leaf.result _ c.set_leaf.ensures a.right c.requires.1, c.requires.3)

pub returns-in_err-set_leaf : goal.returns-in_err-set_leaf
returns-in_err-set_leaf c =
    let a = c.args in
    set-never a.m.now a.slot a.l (inside a.m.now a.slot c.requires.0) c.requires.2 c.set_leaf.result _ c.set_leaf.ensures _ c.in_err-set_leaf.was

pub returns-in_err-lay : goal.returns-in_err-lay
returns-in_err-lay c =
    never-refused _ c.lay.result tt c.lay.ensures.0 c.in_err-lay.was

pub returns : goal.returns
returns c =
    let a = c.args in
    (refl, c.lay.ensures.1 ∙ ap (λ (b : List ℕ). leaf_put b a.right a.text.now) (leaf-set a.m.now a.slot a.l c.set_leaf.result _ c.set_leaf.ensures (inside a.m.now a.slot c.requires.0) c.requires.2))
