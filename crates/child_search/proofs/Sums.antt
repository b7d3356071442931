-- Laws of the sums and of the searches, a turn of a loop at a time. The loop stands at the i-th child of l, and s are the sums on its left.
use mathlib.Core.Path.{◌≡◌, sym, ap, ◌∙◌}
use mathlib.Core.Bool.{Bool, true, false, ◌||◌, cond}
use mathlib.Core.List.{List}
use Prim.Native.Nat.{ℕ, suc, ◌+◌, ◌≤◌, ◌<◌}
use native.Mathlib.Numerals.{add-one}
use native.Mathlib.Omega.{arith}
use lib.ListN.{length, drop, get_or, drop_of_length-le}
use lib.Seq.{drop-cons}
use Rattle.plain.proofs.Logic.{or_left, or_right, or-none}
use Rattle.text_info.specs.Info.{zeros, Summed}
use Rattle.text_info.specs.declared.TextInfo.{TextInfo}
use Rattle.text_info.specs.declared.TextSum.{TextSum}
use Rattle.text_info.proofs.Counts.{sum-exact}
use Rattle.pool.specs.declared.Kid.{Kid}
use Rattle.pool.specs.Slot.{no_kid}
use Rattle.child_search.specs.Sought.{plus_info, sum_from, Within, Plus, none, search_from}

-- ── sums ──

same_sum : (a b c d a' b' c' d' : ℕ) → a ≡ a' → b ≡ b' → c ≡ c' → d ≡ d'
    → ◌≡◌ {A = TextSum} (record { bytes = a; chars = b; utf16_surrogates = c; line_breaks = d }) (record { bytes = a'; chars = b'; utf16_surrogates = c'; line_breaks = d' })
same_sum a b c d a' b' c' d' e f g h = rw (e, f, g, h)

-- the sums of 64 bits are exact: sixteen counts of 32 bits do not reach them
pub plus-exact : (s : TextSum) (t : TextInfo) (r : TextSum) → Within s 16 → t.bytes ≤ 4294967295 → t.chars ≤ 4294967295 → t.utf16_surrogates ≤ 4294967295
    → t.line_breaks ≤ 4294967295 → Summed s t r → Plus s t r
plus-exact s t r w p q u v h =
    let b : r.bytes ≡ s.bytes + t.bytes = h.0 ∙ sum-exact s.bytes t.bytes (omega (arith, w.b)) in
    let c : r.chars ≡ s.chars + t.chars = h.1 ∙ sum-exact s.chars t.chars (omega (arith, w.c)) in
    let d : r.utf16_surrogates ≡ s.utf16_surrogates + t.utf16_surrogates = h.2 ∙ sum-exact s.utf16_surrogates t.utf16_surrogates (omega (arith, w.u)) in
    let e : r.line_breaks ≡ s.line_breaks + t.line_breaks = h.3 ∙ sum-exact s.line_breaks t.line_breaks (omega (arith, w.l)) in
    record { is = same_sum _ _ _ _ _ _ _ _ b c d e; b = omega arith; c = omega arith; u = omega arith; l = omega arith }

pub within-plus : (s : TextSum) (t : TextInfo) (r : TextSum) (i : ℕ) → Within s i → Plus s t r → Within r (i + 1)
within-plus s t r i w p = record { b = omega (arith, w.b, p.b); c = omega (arith, w.c, p.c); u = omega (arith, w.u, p.u); l = omega (arith, w.l, p.l) }

pub within_more : (s : TextSum) (i n : ℕ) → i ≤ n → Within s i → Within s n
within_more s i n h w = record { b = omega (arith, w.b); c = omega (arith, w.c); u = omega (arith, w.u); l = omega (arith, w.l) }

pub within_none : (s : TextSum) → s ≡ zeros → Within s 0
within_none s e = rw e (record { b = omega arith; c = omega arith; u = omega arith; l = omega arith })

module _ (l : List Kid) (i : ℕ) (s : TextSum) where
  pub sum-turn : (t : TextInfo) (r : TextSum) → i < length l → t ≡ (get_or l i no_kid).info → Plus s t r → sum_from r (drop (i + 1) l) ≡ sum_from s (drop i l)
  unfolding sum_from
  sum-turn t r h e p =
      let f : r ≡ plus_info s (get_or l i no_kid).info = p.is ∙ ap (plus_info s) e in
      rw (f, add-one, drop-cons l i no_kid)

  pub sum-end : length l ≤ i → s ≡ sum_from s (drop i l)
  unfolding sum_from
  sum-end h = sym (rw (drop_of_length-le l h))

-- ── searches ──

module _ (stops : TextSum → Bool) (l : List Kid) (i : ℕ) (s : TextSum) where
  step : i < length l
      → search_from stops i s (drop i l)
      ≡ cond (none (drop (suc i) l) || stops (plus_info s (get_or l i no_kid).info)) (i, s) (search_from stops (i + 1) (plus_info s (get_or l i no_kid).info) (drop (suc i) l))
  unfolding search_from
  step h = rw (drop-cons l i no_kid h)

  chosen : (t : Bool) (x y : ℕ × TextSum) → t ≡ true → cond t x y ≡ x
  chosen t x y e = rw e

  other : (t : Bool) (x y : ℕ × TextSum) → t ≡ false → cond t x y ≡ y
  other t x y e = rw e

  -- it stops at this child
  pub hit : (t : TextInfo) (r : TextSum) → i < length l → t ≡ (get_or l i no_kid).info → Plus s t r → stops r ≡ true → (i, s) ≡ search_from stops i s (drop i l)
  hit t r h e p g =
      let f : r ≡ plus_info s (get_or l i no_kid).info = p.is ∙ ap (plus_info s) e in
      sym (step h ∙ chosen _ _ _ (or_right (none (drop (suc i) l)) (stops (plus_info s (get_or l i no_kid).info)) (ap stops (sym f) ∙ g)))

  -- or at the last
  pub last : length l ≡ i + 1 → (i, s) ≡ search_from stops i s (drop i l)
  last h =
      let f : none (drop (suc i) l) ≡ true = rw (drop_of_length-le l {i = suc i} (omega arith)) in
      sym (step (omega arith) ∙ chosen _ _ _ (or_left (none (drop (suc i) l)) (stops (plus_info s (get_or l i no_kid).info)) f))

  -- or goes on
  pub on : (t : TextInfo) (r : TextSum) → i + 1 < length l → t ≡ (get_or l i no_kid).info → Plus s t r → stops r ≡ false
      → search_from stops (i + 1) r (drop (i + 1) l) ≡ search_from stops i s (drop i l)
  on t r h e p g =
      let f : r ≡ plus_info s (get_or l i no_kid).info = p.is ∙ ap (plus_info s) e in
      let n : none (drop (suc i) l) ≡ false = rw (drop-cons l (suc i) no_kid (omega arith)) in
      let m : drop (i + 1) l ≡ drop (suc i) l = rw add-one in
      ap (λ (x : List Kid). search_from stops (i + 1) r x) m ∙ ap (λ (x : TextSum). search_from stops (i + 1) x (drop (suc i) l)) f
      ∙ sym (step (omega arith) ∙ other _ _ _ (or-none (none (drop (suc i) l)) (stops (plus_info s (get_or l i no_kid).info)) n (ap stops (sym f) ∙ g)))
