-- The break rules, and the helpers over a text.
use mathlib.Core.Path.{refl}
use mathlib.Core.Bool.{not, ◌||◌}
use mathlib.Core.List.{List, [], ◌∷◌}
use Prim.Native.Nat.{ℕ}
use lib.Dec.{eqb}
use lib.ListN.{length}
use Rattle.plain.specs.Utf8.{valid_utf8}
use Rattle.plain.specs.Outcome.{past}
use Rattle.crlf.specs.Break.{at_index, at_seam}
use Rattle.str_utils.specs.Helpers.{of_text}
use Rattle.refusal_order.specs.Order.{InOrder}
use Rattle.refusal_order.proofs.Given.{by-rules}

-- `is_break`, `prev_break`, `next_break`, `nearest_internal_break`, `find_good_split`
pub at-index : {A : Type 0} (s : List ℕ) (i : ℕ) (a : A) → InOrder ((3, past i (length s)) ∷ []) (at_index s i a)
unfolding at_index
at-index s i a = by-rules ((3, past i (length s)) ∷ []) a refl

-- `seam_is_break`
pub at-seam : {A : Type 0} (l r : List ℕ) (a : A) → InOrder ((12, eqb (length l) 0 || eqb (length r) 0) ∷ []) (at_seam l r a)
unfolding at_seam
at-seam l r a = by-rules ((12, eqb (length l) 0 || eqb (length r) 0) ∷ []) a refl

-- all of `str_utils` and `str_ends`
pub of-text : {A : Type 0} (s : List ℕ) (f : List ℕ → A) → InOrder ((5, not (valid_utf8 s)) ∷ []) (of_text s f)
unfolding of_text
of-text s f = by-rules _ _ refl
