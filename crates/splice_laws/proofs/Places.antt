-- The place of an index of chars in the leaf that a search for it found.
use mathlib.Core.Path.{◌≡◌, refl, sym, ap, ◌∙◌}
use mathlib.Core.Logic.{◌⊎◌, inl, inr, ⊎_elim}
use mathlib.Core.List.{List, [], ◌∷◌, ◌++◌}
use Prim.Native.Nat.{ℕ, ◌+◌, ◌-◌, ◌≤◌, ◌<◌}
use native.Mathlib.Omega.{arith}
use lib.ListN.{length, length-append}
use borrow.Author.Tests.{ltb-true, leb-true, leb-false}
use Rattle.plain.specs.Utf8.{decode}
use Rattle.plain.proofs.Utf8.{valid-append}
use Rattle.text_info.specs.declared.TextSum.{TextSum}
use Rattle.child_search.specs.declared.Measure.{Measure}
use Rattle.child_search.specs.declared.Measure.TheVariants.{Chars, CharEnds}
use Rattle.nodes.specs.Node.{text_of}
use Rattle.tree.specs.Tree.{bytes_below}
use Rattle.tree_search.specs.Search.{PartedAt}
use Rattle.tree_search.proofs.Parted.{left-reached, chars-parted}
use Rattle.leaf_parts.proofs.Fronts.{length_three, chars-left}
use Rattle.splice_laws.proofs.Texts.{none-decoded}

-- q chars of the leaf lie before the place
pub record Inside (before leaf : List ℕ) (at q : ℕ) : Type 0 where
  pub is : length (decode before) + q ≡ at
  pub within : q ≤ length (decode leaf)

-- one is there: where nothing lies before the leaf, as the place is not the first
pub first-or-more : (before leaf : List ℕ) (at q : ℕ) → Inside before leaf at q → 1 ≤ at → (before ≡ []) ⊎ (1 ≤ q) → 1 ≤ q
first-or-more before leaf at q i h (inl e) = omega (arith, i.is, ap (λ (l : List ℕ). length (decode l)) e, ap length none-decoded)
first-or-more before leaf at q i h (inr k) = k

none_or_some : (l : List ℕ) → (l ≡ []) ⊎ (l ≡ [] → ⊥)
none_or_some [] = inl refl
none_or_some (x ∷ l) = inr (λ e. omega (arith, ap length e))

module _ (m : List ℕ) (h s at leaf : ℕ) (left : TextSum) (before after : List ℕ) where
  module _ (by : Measure) (p : PartedAt m h s by at leaf left before after) (room : at ≤ length (decode (bytes_below m h s))) where
    two : length (decode (before ++ text_of m leaf)) ≡ left.chars + length (decode (text_of m leaf))
    two =
        ap length (valid-append before (text_of m leaf) p.valid-before p.valid-leaf).1 ∙ length-append (decode before) (decode (text_of m leaf))
        ∙ ap (λ (k : ℕ). k + length (decode (text_of m leaf))) (sym (chars-left m h s by at leaf left before after p))

    -- with nothing behind the leaf, the place is in it
    last : after ≡ [] → at ≤ left.chars + length (decode (text_of m leaf))
    last e =
        omega (
          arith,
          ap length (chars-parted m by h s at leaf left before after p),
          length_three (decode before) (decode (text_of m leaf)) (decode after),
          ap (λ (l : List ℕ). length (decode l)) e,
          ap length none-decoded,
          chars-left m h s by at leaf left before after p,
        )

    inside : left.chars ≤ at → at ≤ left.chars + length (decode (text_of m leaf)) → Inside before (text_of m leaf) at (at - left.chars)
    inside low high = record { is = omega (arith, chars-left m h s by at leaf left before after p); within = omega arith }

  -- by chars: in the leaf with the char behind the place, or in the last
  pub by-chars : PartedAt m h s Chars at leaf left before after → at ≤ length (decode (bytes_below m h s))
      → Inside before (text_of m leaf) at (at - left.chars) × ((after ≡ []) ⊎ (at - left.chars < length (decode (text_of m leaf))))
  by-chars p room =
      let low = left-reached m Chars h s at leaf left before after p in
      ⊎_elim
      (λ e. (inside Chars p room low (last Chars p room e), inl e))
      (λ n. let k = ltb-true at (length (decode (before ++ text_of m leaf))) (p.stopped n) in
      (inside Chars p room low (omega (arith, two Chars p room)), inr (omega (arith, two Chars p room))))
      (none_or_some after)

  -- by ends of chars: in the leaf with the char before the place, or in the first
  pub by-ends : PartedAt m h s CharEnds at leaf left before after → at ≤ length (decode (bytes_below m h s))
      → Inside before (text_of m leaf) at (at - left.chars) × ((before ≡ []) ⊎ (1 ≤ at - left.chars))
  by-ends p room =
      let low = left-reached m CharEnds h s at leaf left before after p in
      let high : at ≤ left.chars + length (decode (text_of m leaf))
      = ⊎_elim (λ e. last CharEnds p room e)
      (λ n. let k = leb-true at (length (decode (before ++ text_of m leaf))) (p.stopped n) in omega (arith, two CharEnds p room))
      (none_or_some after) in (
        inside CharEnds p room low high,
        ⊎_elim (λ e. inl e) (λ n. let k = leb-false at left.chars (p.passed n) in inr (omega arith)) (none_or_some before),
      )
