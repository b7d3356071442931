-- What the sums and searches come to when the tests of the code have been passed or not.
use Rattle.std.specs.Prelude.{Ok, Err}
use mathlib.Core.Path.{◌≡◌, sym, ap, ◌∙◌}
use mathlib.Core.Bool.{Bool, false, ◌||◌}
use mathlib.Core.List.{[], ◌∷◌}
use Prim.Native.Nat.{ℕ, ◌≤◌, ◌<◌}
use native.Mathlib.Omega.{arith}
use lib.Dec.{eqb}
use lib.ListN.{drop}
use Rattle.plain.specs.Outcome.{Outcome, Outcome.value, Outcome.refused, past, mapped}
use Rattle.plain.proofs.Logic.{or_left, or_right, or-none}
use Rattle.plain.proofs.Outcome.{rule-applies, one-applies, one-passed}
use Rattle.answer.specs.Answers.{refusal_number, Answer, outcome}
use Rattle.answer.specs.declared.Refusal.{Refusal}
use Rattle.text_info.specs.Info.{zeros}
use Rattle.text_info.specs.declared.TextSum.{TextSum}
use Rattle.node_children.specs.declared.NodeChildren.{NodeChildren}
use Rattle.child_search.specs.declared.Measure.{Measure}
use Rattle.child_search.specs.declared.Measure.TheVariants.{Chars, CharEnds}
use Rattle.node_children.specs.Kids.{kids}
use Rattle.child_search.specs.Sought.{total, combined, stops_at, most_of, search_from, found_by, searched, chars_of, end_from, range_of, searched_range, Sought}
use Rattle.node_children.proofs.Rules.{none-yes, none-no, past-yes, past-no, three-second, three_third, three-passed}

-- ── `combined_info` ──

pub combined-long : (c : NodeChildren) → 16 < c.len → refused 11 ≡ combined c
unfolding combined
combined-long c h = sym (one-applies 11 (past c.len 16) (total c) (past-yes c.len 16 h))

pub combined-done : (c : NodeChildren) (s : TextSum) → c.len ≤ 16 → s ≡ total c → value s ≡ combined c
unfolding combined
combined-done c s h e = ap (λ (t : TextSum). value t) e ∙ sym (one-passed 11 (past c.len 16) (total c) (past-no c.len 16 h))

-- ── a search ──

module _ (c : NodeChildren) (m : Measure) (at : ℕ) where
  pub searched-none : c.len ≡ 0 → refused 12 ≡ searched c m at
  unfolding searched
  searched-none h = sym (rule-applies 12 (eqb c.len 0) ((3, past at (most_of m (total c))) ∷ (11, past c.len 16) ∷ []) (found_by m at (kids c)) (none-yes c.len h))

  -- n is the highest index
  module _ (some : 0 < c.len) (s : TextSum) (n : ℕ) (all : s ≡ total c) (top : n ≡ most_of m s) where
    highest : n ≡ most_of m (total c)
    highest = top ∙ ap (most_of m) all

    pub searched-past : n < at → refused 3 ≡ searched c m at
    unfolding searched
    searched-past h =
        sym
        (three-second 12 3 11 (eqb c.len 0) (past at (most_of m (total c))) (past c.len 16) (found_by m at (kids c)) (none-no c.len some)
        (past-yes at (most_of m (total c)) (omega (arith, highest))))

    pub searched-long : at ≤ n → 16 < c.len → refused 11 ≡ searched c m at
    unfolding searched
    searched-long h g =
        sym
        (three_third 12 3 11 (eqb c.len 0) (past at (most_of m (total c))) (past c.len 16) (found_by m at (kids c)) (none-no c.len some)
        (past-no at (most_of m (total c)) (omega (arith, highest))) (past-yes c.len 16 g))

    pub searched-done : (z : TextSum) (i : ℕ) (l : TextSum) → at ≤ n → c.len ≤ 16 → z ≡ zeros → Sought c i l (search_from (stops_at m at) 0 z (drop 0 (kids c)))
        → value (i, l) ≡ searched c m at
    unfolding searched
    searched-done z i l h g e f =
        ap (λ (x : ℕ × TextSum). value x) (f.is ∙ ap (λ (x : TextSum). search_from (stops_at m at) 0 x (kids c)) e)
        ∙ sym
        (three-passed 12 3 11 (eqb c.len 0) (past at (most_of m (total c))) (past c.len 16) (found_by m at (kids c)) (none-no c.len some)
        (past-no at (most_of m (total c)) (omega (arith, highest))) (past-no c.len 16 g))

-- ── with the chars alone ──

module _ (f : Answer (ℕ × TextSum)) (o : Outcome (ℕ × TextSum)) (promise : outcome f ≡ o) where
  pub only-refused : (q : Refusal) → f ≡ Err q → refused (refusal_number q) ≡ mapped chars_of o
  only-refused q e = ap (mapped chars_of) (sym (ap outcome e) ∙ promise)

  pub only-found : (i : ℕ) (s : TextSum) → f ≡ Ok (i, s) → value (i, s.chars) ≡ mapped chars_of o
  only-found i s e = ap (mapped chars_of) (sym (ap outcome e) ∙ promise)

-- ── a range ──

module _ (c : NodeChildren) (s e : ℕ) where
  off : Bool
  off = past s e || past e (most_of Chars (total c))

  pub range_none : c.len ≡ 0 → refused 12 ≡ searched_range c s e
  unfolding searched_range off
  range_none h = sym (rule-applies 12 (eqb c.len 0) ((3, off) ∷ (11, past c.len 16) ∷ []) (range_of s e (kids c)) (none-yes c.len h))

  pub range-falls : 0 < c.len → e < s → refused 3 ≡ searched_range c s e
  unfolding searched_range off
  range-falls some h =
      sym
      (three-second 12 3 11 (eqb c.len 0) off (past c.len 16) (range_of s e (kids c)) (none-no c.len some)
      (or_left (past s e) (past e (most_of Chars (total c))) (past-yes s e h)))

  module _ (some : 0 < c.len) (t : TextSum) (n : ℕ) (all : t ≡ total c) (top : n ≡ most_of Chars t) where
    highest-char : n ≡ most_of Chars (total c)
    highest-char = top ∙ ap (most_of Chars) all

    pub range-past : n < e → refused 3 ≡ searched_range c s e
    unfolding searched_range off
    range-past h =
        sym
        (three-second 12 3 11 (eqb c.len 0) off (past c.len 16) (range_of s e (kids c)) (none-no c.len some)
        (or_right (past s e) (past e (most_of Chars (total c))) (past-yes e (most_of Chars (total c)) (omega (arith, highest-char)))))

    within : s ≤ e → e ≤ n → off ≡ false
    unfolding off
    within h g = or-none (past s e) (past e (most_of Chars (total c))) (past-no s e h) (past-no e (most_of Chars (total c)) (omega (arith, highest-char)))

    pub range-long : s ≤ e → e ≤ n → 16 < c.len → refused 11 ≡ searched_range c s e
    unfolding searched_range off
    range-long h g k =
        sym (three_third 12 3 11 (eqb c.len 0) off (past c.len 16) (range_of s e (kids c)) (none-no c.len some) (within h g) (past-yes c.len 16 k))

    pub range-done : (z : TextSum) (i : ℕ) (l : TextSum) (j : ℕ) (r : TextSum) → s ≤ e → e ≤ n → c.len ≤ 16 → z ≡ zeros
        → Sought c i l (search_from (stops_at Chars s) 0 z (drop 0 (kids c))) → Sought c j r (search_from (stops_at CharEnds e) i l (drop i (kids c)))
        → value ((i, l.chars), (j, r.chars)) ≡ searched_range c s e
    unfolding searched_range off
    range-done z i l j r h g k q a b =
        ap (λ (x : ℕ × TextSum). value (chars_of (i, l), chars_of x)) b.is
        ∙ ap (λ (x : ℕ × TextSum). value (chars_of x, chars_of (end_from e x (kids c)))) (a.is ∙ ap (λ (x : TextSum). search_from (stops_at Chars s) 0 x (kids c)) q)
        ∙ sym (three-passed 12 3 11 (eqb c.len 0) off (past c.len 16) (range_of s e (kids c)) (none-no c.len some) (within h g) (past-no c.len 16 k))
