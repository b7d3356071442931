-- A well-formed memory has a low tree, and slots that are free: what an edit needs is always there.
use mathlib.Core.Path.{◌≡◌, refl, sym, ap}
use mathlib.Core.Bool.{Bool, true, false, ◌&&◌}
use mathlib.Core.List.{List}
use Prim.Native.Nat.{ℕ, zero, suc, ◌+◌, ◌^◌, ◌≤◌, ◌<◌}
use native.Mathlib.Omega.{arith}
use lib.Dec.{eqb, leb}
use lib.ListN.{length}
use borrow.Author.Tests.{eqb-true, leb-true}
use Rattle.plain.proofs.Logic.{cut, and_left, and_right}
use Rattle.plain_note.specs.Note.{need, limit}
use Rattle.tree.specs.Tree.{uses, bytes_below, sound, least_root}
use Rattle.tree.proofs.Size.{nodes, sum_below, slots-used, root-nodes, root-bytes, root-leaves, below-add}
use Rattle.nodes.proofs.Heads.{not_so}
use Rattle.note_head.specs.Head.{n_of, height_of, root_of}
use Rattle.memory.specs.Formed.{all_below, note_bytes, tree_right, slots_right, size_right, marks_right}
use Rattle.memory.specs.Checks.{own_right}

-- ── numbers ──

-- four to the fifth and more
high : (h : ℕ) → 5 ≤ h → 1024 ≤ 4 ^ h
high zero l = absurd (omega arith)
high (suc h) l =
    cut h 5
    (λ k. let z : h ≡ 4 = omega arith in omega (arith, ap (λ (i : ℕ). 4 ^ i) z))
    (λ k. omega (arith, high h k))

-- where each number below n is given 1, n are given in all
pub ones_below : (n : ℕ) (f : ℕ → ℕ) → all_below n (λ x. eqb (f x) 1) ≡ true → sum_below n f ≡ n
unfolding all_below sum_below
ones_below zero f e = refl
ones_below (suc n) f e =
    omega (arith, eqb-true (f n) 1 (and_left (eqb (f n) 1) (all_below n (λ x. eqb (f x) 1)) e), ones_below n f (and_right (eqb (f n) 1) (all_below n (λ x. eqb (f x) 1)) e))

-- ── a tree with its root at height h in slot s, in a memory of n slots ──

module _ (m : List ℕ) (n : ℕ) (long : length m ≡ need n) (most : n ≤ 4096) where
  -- THEOREM: a note within its size has a tree of height 5 at most; one byte more makes no difference
  pub low : (h s : ℕ) → sound m (least_root h) h s ≡ true → length (bytes_below m h s) ≤ limit n + 1 → h ≤ 5
  low zero s e b = omega arith
  low (suc h) s e b =
      cut h 5 (λ l. omega arith)
      (λ l. absurd (omega (arith, high h l, root-leaves m h s e, root-bytes m h s e)))

  -- THEOREM: and 16 slots at least are free, where each is in the tree or free
  pub roomy : (h s : ℕ) (f : ℕ → ℕ) → 17 ≤ n → sound m (least_root h) h s ≡ true → length (bytes_below m h s) ≤ limit n + 1
      → all_below n (λ x. eqb (uses m h s x + f x) 1) ≡ true → 16 ≤ sum_below n f
  roomy h s f least e b each =
      let used = slots-used m n (omega arith) (least_root h) h s e in
      let all = ones_below n (λ x. uses m h s x + f x) each in
      omega (arith, used, all, below-add n (uses m h s) f, few h e b)
    where
      few : (h : ℕ) → sound m (least_root h) h s ≡ true → length (bytes_below m h s) ≤ limit n + 1 → nodes m h s + 16 ≤ n
      few zero e b = unfold nodes in omega arith
      few (suc h) e b = omega (arith, root-nodes m h s e, root-bytes m h s e)

-- ── the note's own memory ──

module _ (m : List ℕ) where
  abbrev Sound : Bool
  Sound = sound m (least_root (height_of m)) (height_of m) (root_of m).slot

  own-sound : own_right m ≡ true → Sound ≡ true
  unfolding own_right tree_right
  own-sound e = and_left Sound _ (and_left (tree_right m) (slots_right m && (size_right m && marks_right m)) e)

  own-size : own_right m ≡ true → leb (length (note_bytes m)) (limit (n_of m)) ≡ true
  unfolding own_right size_right
  own-size e = and_left (size_right m) (marks_right m) (and_right (slots_right m) (size_right m && marks_right m) (and_right (tree_right m) (slots_right m && (size_right m && marks_right m)) e))

  -- THEOREM: with a higher tree it is not well formed
  pub too-high : (n : ℕ) → n ≡ n_of m → n ≤ 4096 → length m ≡ need n → 5 < height_of m → false ≡ own_right m
  too-high n e l k h =
      sym
      (not_so (own_right m)
      (λ t. let b = leb-true (length (note_bytes m)) (limit (n_of m)) (own-size t) in
      absurd (omega (arith, low m n k l (height_of m) (root_of m).slot (own-sound t) (omega (arith, b, e))))))
