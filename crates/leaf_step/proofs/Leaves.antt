-- Two leaves written one after the other: both are read, and nothing else changes.
use mathlib.Core.Path.{◌≡◌, ◌∙◌}
use mathlib.Core.Bool.{true}
use mathlib.Core.List.{List}
use Prim.Native.Nat.{ℕ, ◌+◌, ◌≤◌}
use native.Mathlib.Omega.{arith}
use lib.ListN.{length, take}
use Rattle.plain_note.specs.Note.{head_size}
use Rattle.pool.specs.Slot.{slot_start, slot_of}
use Rattle.nodes.specs.Node.{is_leaf, text_of, leaf_put}
use Rattle.nodes.proofs.Put.{Same, same, leaf-size, leaf-put, leaf-text, leaf-others, leaf-front}

module _ (m : List ℕ) (s : ℕ) (a : List ℕ) (u : ℕ) (b : List ℕ) (h : slot_start s + 640 ≤ length m) (g : slot_start u + 640 ≤ length m) (small : length a ≤ 512) (other : length b ≤ 512) where
  abbrev first : List ℕ
  first = leaf_put m s a

  abbrev both : List ℕ
  both = leaf_put first u b

  there : slot_start u + 640 ≤ length first
  there = omega (arith, leaf-size m s a h small)

  pub both-size : length both ≡ length m
  both-size = leaf-size first u b there other ∙ leaf-size m s a h small

  pub both-front : take head_size both ≡ take head_size m
  both-front = leaf-front first u b there other ∙ leaf-front m s a h small

  pub both_others : (x : ℕ) → (x ≡ s → ⊥) → (x ≡ u → ⊥) → slot_of both x ≡ slot_of m x
  both_others x d e = leaf-others first u b there other x e ∙ leaf-others m s a h small x d

  pub right-leaf : is_leaf both u ≡ true
  right-leaf = leaf-put first u b there other

  pub right-text : text_of both u ≡ b
  right-text = leaf-text first u b there other

  module _ (apart : s ≡ u → ⊥) where
    stays : Same both first s
    stays = same both first s (leaf-others first u b there other s apart) (leaf-size first u b there other)

    pub left-leaf : is_leaf both s ≡ true
    left-leaf = stays.leaf ∙ leaf-put m s a h small

    pub left-text : text_of both s ≡ a
    left-text = stays.text ∙ leaf-text m s a h small
