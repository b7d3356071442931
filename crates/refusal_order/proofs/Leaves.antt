-- The calls of a leaf: on bytes in a region, on text, and its counts.
use mathlib.Core.Path.{refl}
use mathlib.Core.Bool.{not, ◌||◌}
use mathlib.Core.List.{List, [], ◌∷◌, ◌++◌}
use Prim.Native.Nat.{ℕ}
use lib.ListN.{length}
use Rattle.plain.specs.Utf8.{valid_utf8}
use Rattle.plain.specs.Edit.{replaced, put_in}
use Rattle.plain.specs.Outcome.{Rule, ruled, past}
use Rattle.leaf_bytes.specs.Leaf.{leaf_of, over}
use Rattle.leaf_bytes.specs.Split.{half_split, seam_split}
use Rattle.leaf_bytes.specs.Raw.{over_sides, no_side, replacing, parting, halving, mending}
use Rattle.text_info.specs.Info.{raw_leaf_info, leaf_info}
use Rattle.node_text.specs.Texts.{off_chars, no_text, edited, split_off, inserted_split, seam_fixed}
use Rattle.refusal_order.specs.Order.{InOrder}
use Rattle.refusal_order.proofs.Given.{by-rules}

-- 11: the leaf given, or a side of the text t cut at p, is too long for its region
abbrev too_long_sides : List ℕ → ℕ → List ℕ → List ℕ → ℕ → Rule
too_long_sides region len right t p = (11, over region len || over_sides region right t p)

module _ (region : List ℕ) (len : ℕ) where
  abbrev leaf : List ℕ
  leaf = leaf_of region len

  -- ── bytes ──

  pub replacing-order : (s e : ℕ) (piece : List ℕ)
      → InOrder ((3, past s e || past e (length leaf)) ∷ (11, over region len || over region (length (replaced s e piece leaf))) ∷ []) (replacing region len s e piece)
  unfolding replacing
  replacing-order s e piece = by-rules _ _ refl

  pub parting-order : (i : ℕ) (right : List ℕ) → InOrder ((3, past i (length leaf)) ∷ too_long_sides region len right leaf i ∷ []) (parting region len i right)
  unfolding parting
  parting-order i right = by-rules _ _ refl

  pub halving-order : (i : ℕ) (piece right : List ℕ)
      → InOrder ((3, past i (length leaf)) ∷ too_long_sides region len right (put_in i piece leaf) (half_split (put_in i piece leaf)) ∷ []) (halving region len i piece right)
  unfolding halving
  halving-order i piece right = by-rules _ _ refl

  -- ── text ──

  -- `from_str`, `insert_str`, `push_str`, `truncate`, `truncate_front`, `remove_range`
  pub edited-order : (s e : ℕ) (piece : List ℕ)
      → InOrder (off_chars leaf s e ∷ no_text leaf piece ∷ (11, over region len || over region (length (replaced s e piece leaf))) ∷ []) (edited region len s e piece)
  unfolding edited
  edited-order s e piece = by-rules _ _ refl

  -- `split_off`
  pub split-off-order : (i : ℕ) (right : List ℕ) → InOrder (off_chars leaf i i ∷ no_text leaf [] ∷ too_long_sides region len right leaf i ∷ []) (split_off region len i right)
  unfolding split_off
  split-off-order i right = by-rules _ _ refl

  -- `insert_str_split`, `push_str_split`
  pub inserted-split-order : (i : ℕ) (piece right : List ℕ)
      → InOrder (off_chars leaf i i ∷ no_text leaf piece ∷ too_long_sides region len right (put_in i piece leaf) (half_split (put_in i piece leaf)) ∷ [])
      (inserted_split region len i piece right)
  unfolding inserted_split
  inserted-split-order i piece right = by-rules _ _ refl

-- `checked`, which the calls above ask first
pub checked-order : (t : List ℕ) (s e : ℕ) (piece : List ℕ) (n : ℕ) → InOrder (off_chars t s e ∷ no_text t piece ∷ []) (ruled (off_chars t s e ∷ no_text t piece ∷ []) n)
checked-order t s e piece n = by-rules _ _ refl

-- ── a seam ──

module _ (left : List ℕ) (len : ℕ) (right : List ℕ) (rlen : ℕ) where
  abbrev l : List ℕ
  l = leaf_of left len

  abbrev r : List ℕ
  r = leaf_of right rlen

  abbrev too_long : Rule
  too_long = (11, (over left len || over right rlen) || over_sides left right (l ++ r) (seam_split l r))

  pub mending-order : InOrder (no_side l r ∷ too_long ∷ []) (mending left len right rlen)
  unfolding mending
  mending-order = by-rules _ _ refl

  -- `fix_segment_seam`
  pub seam-fixed-order : InOrder (no_side l r ∷ no_text l r ∷ too_long ∷ []) (seam_fixed left len right rlen)
  unfolding seam_fixed
  seam-fixed-order = by-rules _ _ refl

-- ── counts ──

-- `TextInfo::from_bytes`, `TextInfo::from_str`
pub raw-leaf-info-order : (s : List ℕ) → InOrder ((11, past (length s) 512) ∷ []) (raw_leaf_info s)
unfolding raw_leaf_info
raw-leaf-info-order s = by-rules _ _ refl

pub leaf-info-order : (s : List ℕ) → InOrder ((5, not (valid_utf8 s)) ∷ (11, past (length s) 512) ∷ []) (leaf_info s)
unfolding leaf_info
leaf-info-order s = by-rules _ _ refl
