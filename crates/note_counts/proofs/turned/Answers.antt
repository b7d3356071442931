-- `turned` meets its contract: the leaf is found, and what lies on its left is counted.
use mathlib.Core.Path.{ap, ◌∙◌}
use Prim.Native.Nat.{ℕ, ◌*◌}
use native.Mathlib.Omega.{arith}
use Rattle.plain.specs.Outcome.{Outcome.value}
use Rattle.answer.proofs.Opened.{never-refused}
use Rattle.leaf_bytes.proofs.Opened.{value-is}
use Rattle.pool.specs.declared.Kid.{Kid}
use Rattle.tree_search.proofs.Rules.{bounded_at, within-less}
use Rattle.tree_search.proofs.Parted.{left-reached}
use Rattle.note_counts.proofs.InNote.{turned-sum, never, lies}
use Rattle.note_counts.proofs.turned.Goals as goal

pub count_in-requires : goal.count_in-requires
count_in-requires c =
    let h = c.height.result in
    within-less _ (16 * h) 4080 (omega arith) (bounded_at h _ _ _ c.leaf_at.ensures.1 c.in_ok-slot.was)

pub overflow_sub-idx : goal.overflow_sub-idx
overflow_sub-idx c =
    let a = c.args in
    let l = lies a.m.now c.requires.0 a.from a.idx c.requires.1 _ _ _ c.height.ensures (c.wide.ensures.0 ∙ ap (λ (k : Kid). k.slot) c.root-root.ensures) c.by_of.ensures _ c.leaf_at.ensures.0 _ _ c.in_ok-slot.was in
    omega (arith, left-reached _ _ _ _ _ _ _ _ _ l.parted, c.count_in.ensures.0)

pub in_leaf-requires : goal.in_leaf-requires
in_leaf-requires c =
    let a = c.args in
    let l = lies a.m.now c.requires.0 a.from a.idx c.requires.1 _ _ _ c.height.ensures (c.wide.ensures.0 ∙ ap (λ (k : Kid). k.slot) c.root-root.ensures) c.by_of.ensures _ c.leaf_at.ensures.0 _ _ c.in_ok-slot.was in
    (l.parted.is_leaf, l.parted.valid-leaf)

pub returns-in_err-n : goal.returns-in_err-n
returns-in_err-n c = never-refused _ _ _ c.in_leaf.ensures.0 c.in_err-n.was

pub count_in-requires-2 : goal.count_in-requires-2
count_in-requires-2 c =
    let h = c.height.result in
    within-less _ (16 * h) 4080 (omega arith) (bounded_at h _ _ _ c.leaf_at.ensures.1 c.in_ok-slot.was)

pub overflow_add-result : goal.overflow_add-result
overflow_add-result c = omega (arith, value-is _ _ c.in_leaf.ensures.0 _ c.in_ok-n.was, c.in_leaf.ensures.1, c.count_in-2.ensures.1)

pub returns-in_err-slot : goal.returns-in_err-slot
returns-in_err-slot c =
    let a = c.args in
    absurd (never a.m.now c.requires.0 a.from a.idx c.requires.1 _ _ _ c.height.ensures (c.wide.ensures.0 ∙ ap (λ (k : Kid). k.slot) c.root-root.ensures) c.by_of.ensures _ c.leaf_at.ensures.0 _ c.in_err-slot.was)

pub returns : goal.returns
returns c =
    let a = c.args in
    let l = lies a.m.now c.requires.0 a.from a.idx c.requires.1 _ _ _ c.height.ensures (c.wide.ensures.0 ∙ ap (λ (k : Kid). k.slot) c.root-root.ensures) c.by_of.ensures _ c.leaf_at.ensures.0 _ _ c.in_ok-slot.was in
    ap (λ (n : ℕ). value n)
    (turned-sum a.m.now _ _ a.from a.idx _ _ l.before l.after l.parted a.to c.requires.1 _ _ _ c.count_in-2.ensures.0 c.count_in.ensures.0 (value-is _ _ c.in_leaf.ensures.0 _ c.in_ok-n.was))
