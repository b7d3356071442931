-- A leaf with a text that is told by its counts: sound from its own size on, and as a child told right.
use mathlib.Core.Path.{◌≡◌, refl, sym, ap, ◌∙◌}
use mathlib.Core.Bool.{true}
use mathlib.Core.List.{List, [], ◌∷◌, ◌++◌, append-nil}
use Prim.Native.Nat.{ℕ, ◌+◌, ◌≤◌}
use native.Mathlib.Omega.{arith}
use lib.Dec.{eqb}
use lib.ListN.{length}
use borrow.Author.Tests.{eq-eqb}
use Rattle.plain.specs.Utf8.{valid_utf8, decode}
use Rattle.text_info.specs.Info.{info_of}
use Rattle.pool.specs.declared.Kid.{Kid}
use Rattle.pool.specs.Slot.{len_of}
use Rattle.nodes.specs.Node.{is_leaf, text_of}
use Rattle.nodes.proofs.Accepted.{text-length}
use Rattle.tree.specs.Tree.{join_over, sum_over, every, bytes_below, hit, sum_of, tells, told_right, least_at, sound}
use Rattle.tree.specs.Kids.{fine}
use Rattle.tree.proofs.Lists.{both}
use Rattle.tree.proofs.Sound.{leaf-bytes, leaf-uses, sound-leaf}
use Rattle.edit_steps.specs.Became.{uses_all, bytes_all}
use Rattle.edit_steps.specs.Grown.{kid}

tells-own : (cs : List ℕ) → tells (info_of cs) (sum_of cs) ≡ true
tells-own cs =
    let same : (n : ℕ) → eqb n n ≡ true = λ n. eq-eqb n n refl in
    rw (same (sum_of cs).bytes, same (sum_of cs).chars, same (sum_of cs).utf16_surrogates, same (sum_of cs).line_breaks)

module _ (m : List ℕ) (s : ℕ) (t : List ℕ) (leaf : is_leaf m s ≡ true) (text : text_of m s ≡ t) (valid : valid_utf8 t ≡ true) where
  pub bytes-are : bytes_below m 0 s ≡ t
  bytes-are = leaf-bytes m s ∙ text

  pub len_is : len_of m s ≡ length t
  len_is = sym (text-length m s leaf) ∙ ap length text

  pub leaf-good : (least : ℕ) → least ≤ length t → sound m least 0 s ≡ true
  leaf-good least h = sound-leaf m least s (record { leaf = leaf; size = omega (arith, len_is); valid = ap valid_utf8 text ∙ valid })

  pub leaf-told : told_right m 0 (kid s (info_of (decode t))) ≡ true
  unfolding told_right
  leaf-told = ap (λ (l : List ℕ). tells (info_of (decode t)) (sum_of (decode l))) bytes-are ∙ tells-own (decode t)

  pub leaf-fine : 128 ≤ length t → fine m 0 (kid s (info_of (decode t))) ≡ true
  unfolding least_at
  leaf-fine h = both (sound m 128 0 s) (told_right m 0 (kid s (info_of (decode t)))) (leaf-good 128 h) leaf-told

-- one child, and two
module _ (m : List ℕ) (a : Kid) where
  pub one-uses : (x : ℕ) → uses_all m 0 (a ∷ []) x ≡ hit a.slot x
  unfolding sum_over
  one-uses x = omega (arith, leaf-uses m a.slot x)

  pub one-bytes : (t : List ℕ) → bytes_below m 0 a.slot ≡ t → bytes_all m 0 (a ∷ []) ≡ t
  unfolding join_over
  one-bytes t e = append-nil (bytes_below m 0 a.slot) ∙ e

  pub one-fine : fine m 0 a ≡ true → every (fine m 0) (a ∷ []) ≡ true
  unfolding every
  one-fine e = rw e

  module _ (b : Kid) where
    pub two-uses : (x : ℕ) → uses_all m 0 (a ∷ b ∷ []) x ≡ hit a.slot x + hit b.slot x
    unfolding sum_over
    two-uses x = omega (arith, leaf-uses m a.slot x, leaf-uses m b.slot x)

    pub two_bytes : (t u : List ℕ) → bytes_below m 0 a.slot ≡ t → bytes_below m 0 b.slot ≡ u → bytes_all m 0 (a ∷ b ∷ []) ≡ t ++ u
    unfolding join_over
    two_bytes t u e f = ap (λ (l : List ℕ). l ++ (bytes_below m 0 b.slot ++ [])) e ∙ ap (λ (l : List ℕ). t ++ l) (append-nil (bytes_below m 0 b.slot) ∙ f)

    pub two-fine : fine m 0 a ≡ true → fine m 0 b ≡ true → every (fine m 0) (a ∷ b ∷ []) ≡ true
    unfolding every
    two-fine e f = rw (e, f)
