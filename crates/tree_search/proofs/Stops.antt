-- Where a search stops, with some counts taken off the index and the sums alike.
use mathlib.Core.Path.{◌≡◌, refl, sym, ap, ◌∙◌}
use mathlib.Core.Bool.{true, false}
use Prim.Native.Nat.{ℕ, ◌+◌, ◌-◌, ◌≤◌}
use native.Mathlib.Omega.{arith}
use lib.Dec.{ltb, leb}
use borrow.Author.Tests.{lt-ltb, le-ltb, ltb-true, ltb-false, leb-true, leb-false, le-leb, lt-leb}
use Rattle.plain.proofs.Logic.{cut}
use Rattle.text_info.specs.Info.{zeros}
use Rattle.text_info.specs.declared.TextSum.{TextSum}
use Rattle.child_search.specs.declared.Measure.{Measure}
use Rattle.child_search.specs.declared.Measure.TheVariants.{Bytes, Chars, Utf16, Breaks, CharEnds}
use Rattle.child_search.specs.Sought.{stops_at, most_of}
use Rattle.tree.specs.Tree.{plus_sum}
use Rattle.tree_search.specs.Search.{count_in}

ltb-shift : (i l x : ℕ) → l ≤ i → ltb i (l + x) ≡ ltb (i - l) x
ltb-shift i l x h =
    cut i (l + x) (λ k. lt-ltb i (l + x) k ∙ sym (lt-ltb (i - l) x (omega arith))) (λ k. le-ltb i (l + x) k ∙ sym (le-ltb (i - l) x (omega arith)))

leb-shift : (i l x : ℕ) → l ≤ i → leb i (l + x) ≡ leb (i - l) x
leb-shift i l x h =
    cut (l + x) i (λ k. lt-leb i (l + x) k ∙ sym (lt-leb (i - l) x (omega arith))) (λ k. le-leb i (l + x) k ∙ sym (le-leb (i - l) x (omega arith)))

module _ (at : ℕ) (l x : TextSum) where
  pub shifted : (by : Measure) → count_in by l ≤ at → stops_at by at (plus_sum l x) ≡ stops_at by (at - count_in by l) x
  shifted Bytes h = ltb-shift at l.bytes x.bytes h
  shifted Chars h = ltb-shift at l.chars x.chars h
  shifted Utf16 h =
      let e : l.chars + x.chars + (l.utf16_surrogates + x.utf16_surrogates) ≡ l.chars + l.utf16_surrogates + (x.chars + x.utf16_surrogates) = omega arith in
      ap (ltb at) e ∙ ltb-shift at (l.chars + l.utf16_surrogates) (x.chars + x.utf16_surrogates) h
  shifted Breaks h = leb-shift at l.line_breaks x.line_breaks h
  shifted CharEnds h = leb-shift at l.chars x.chars h

  -- an index in the whole, or before an end, is in the part
  pub room : (by : Measure) → at ≤ most_of by (plus_sum l x) → at - count_in by l ≤ most_of by x
  room Bytes h = omega arith
  room Chars h = omega arith
  room Utf16 h = omega arith
  room Breaks h = omega arith
  room CharEnds h = omega arith

  pub room-before : (by : Measure) → stops_at by at (plus_sum l x) ≡ true → at - count_in by l ≤ most_of by x
  room-before Bytes h = omega (arith, ltb-true at (l.bytes + x.bytes) h)
  room-before Chars h = omega (arith, ltb-true at (l.chars + x.chars) h)
  room-before Utf16 h = omega (arith, ltb-true at (l.chars + x.chars + (l.utf16_surrogates + x.utf16_surrogates)) h)
  room-before Breaks h = omega (arith, leb-true at (l.line_breaks + x.line_breaks) h)
  room-before CharEnds h = omega (arith, leb-true at (l.chars + x.chars) h)

-- what a search passed is no more than its index
pub reached : (by : Measure) (at : ℕ) (l : TextSum) → stops_at by at l ≡ false → count_in by l ≤ at
reached Bytes at l h = ltb-false at l.bytes h
reached Chars at l h = ltb-false at l.chars h
reached Utf16 at l h = ltb-false at (l.chars + l.utf16_surrogates) h
reached Breaks at l h = omega (arith, leb-false at l.line_breaks h)
reached CharEnds at l h = omega (arith, leb-false at l.chars h)

pub none-counted : (by : Measure) → count_in by zeros ≡ 0
none-counted Bytes = refl
none-counted Chars = refl
none-counted Utf16 = refl
none-counted Breaks = refl
none-counted CharEnds = refl
