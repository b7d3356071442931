-- A search that adds the children up one by one and stops at the one found: what it has not read needs no test, for sums only grow.
use Rattle.std.specs.Prelude.{Ok, Err}
use mathlib.Core.Path.{◌≡◌, refl, sym, ap, ◌∙◌}
use mathlib.Core.Bool.{true, false}
use mathlib.Core.List.{List, [], ◌∷◌}
use Prim.Native.Nat.{ℕ, ◌+◌, ◌≤◌, ◌<◌, min}
use native.Mathlib.Omega.{arith}
use lib.Dec.{eqb}
use lib.ListN.{length, take, drop, get_or}
use lib.Seq.{length-take-le, get_or-take, take_all}
use borrow.Author.Tests.{le-ltb, ltb-true, leb-true}
use Rattle.plain.specs.Outcome.{Outcome, Outcome.value, Outcome.refused, Rule, ruled, past}
use Rattle.plain.proofs.Logic.{cut}
use Rattle.plain.proofs.Outcome.{rule-applies, rule-passed, one-applies, one-passed, passed, more-refused, more-passed}
use Rattle.answer.specs.Answers.{refusal_number, Answer, outcome}
use Rattle.answer.specs.declared.Refusal.{Refusal}
use Rattle.text_info.specs.Info.{zeros}
use Rattle.text_info.specs.declared.TextInfo.{TextInfo}
use Rattle.text_info.specs.declared.TextSum.{TextSum}
use Rattle.pool.specs.declared.Kid.{Kid}
use Rattle.pool.specs.Slot.{slot_start, region_of, entries, no_kid}
use Rattle.pool.specs.Calls.{outside, region_start}
use Rattle.pool.proofs.Opened.{region-opened}
use Rattle.pool.proofs.Kids.{entries-length}
use Rattle.node_children.specs.declared.NodeChildren.{NodeChildren}
use Rattle.node_children.specs.Kids.{list_of}
use Rattle.node_children.specs.Calls.{too_long}
use Rattle.node_children.proofs.Lists.{kids-of}
use Rattle.node_children.proofs.Rules.{none-yes, none-no, past-yes, past-no}
use Rattle.child_search.specs.declared.Measure.{Measure}
use Rattle.child_search.specs.declared.Measure.TheVariants.{Bytes, Chars, Utf16, Breaks, CharEnds}
use Rattle.child_search.specs.Sought.{plus_info, sum_from, first_in, total, Within, Plus, stops_at, most_of, search_from, found_by, searched, searched_in}
use Rattle.child_search.proofs.Sums.{within_none, within-plus, sum-turn, sum-end, hit, on, last}
use Rattle.child_search.proofs.Rules.{searched-past, searched-done}

-- ── sums grow ──

plus-grows : (by : Measure) (s : TextSum) (t : TextInfo) → most_of by s ≤ most_of by (plus_info s t)
plus-grows Bytes s t = omega arith
plus-grows Chars s t = omega arith
plus-grows Utf16 s t = omega arith
plus-grows Breaks s t = omega arith
plus-grows CharEnds s t = omega arith

most-grows : (by : Measure) (s : TextSum) (ks : List Kid) → most_of by s ≤ most_of by (sum_from s ks)
unfolding sum_from
most-grows by s [] = omega arith
most-grows by s (k ∷ ks) = omega (arith, plus-grows by s k.info, most-grows by (plus_info s k.info) ks)

-- an index at which a search stops is not past the end
stops-within : (by : Measure) (at : ℕ) (s : TextSum) → stops_at by at s ≡ true → at ≤ most_of by s
stops-within Bytes at s e = omega (arith, ltb-true at s.bytes e)
stops-within Chars at s e = omega (arith, ltb-true at s.chars e)
stops-within Utf16 at s e = omega (arith, ltb-true at (s.chars + s.utf16_surrogates) e)
stops-within Breaks at s e = omega (arith, leb-true at s.line_breaks e)
stops-within CharEnds at s e = omega (arith, leb-true at s.chars e)

-- ── the search at the i-th of the first n of sixteen entries ──

-- l are the sums on its left: what is found from there on is what is found from the first child on, and the same of the total
pub record Walked (by : Measure) (at : ℕ) (ks : List Kid) (i : ℕ) (l : TextSum) : Type 0 where
  pub small : Within l i
  pub sought : search_from (stops_at by at) i l (drop i ks) ≡ search_from (stops_at by at) 0 zeros ks
  pub summed : sum_from l (drop i ks) ≡ sum_from zeros ks

pub walk_start : (by : Measure) (at : ℕ) (ks : List Kid) (l : TextSum) → l ≡ zeros → Walked by at ks 0 l
walk_start by at ks l e =
    record { small = within_none l e; sought = ap (λ (s : TextSum). search_from (stops_at by at) 0 s ks) e; summed = ap (λ (s : TextSum). sum_from s ks) e }

list-len : (ks : List Kid) → (list_of ks).len ≡ length ks
unfolding list_of
list-len ks = refl

-- r are the sums with its own counts t
module _ (es : List Kid) (sixteen : length es ≡ 16) (n : ℕ) (few : n ≤ 16) (by : Measure) (at i : ℕ) (l r : TextSum) (t : TextInfo) (h : i < n)
    (w : Walked by at (take n es) i l) (is : t ≡ (get_or es i no_kid).info) (p : Plus l t r)
  where
    abbrev ks : List Kid
    ks = take n es

    abbrev list : NodeChildren
    list = list_of ks

    many : length ks ≡ n
    many = length-take-le n es (omega arith)

    len_is : list.len ≡ n
    len_is = list-len ks ∙ many

    own : t ≡ (get_or ks i no_kid).info
    own = is ∙ ap (λ (k : Kid). k.info) (sym (get_or-take n es i no_kid h))

    more : sum_from r (drop (i + 1) ks) ≡ sum_from zeros ks
    more = sum-turn ks i l t r (omega (arith, many)) own p ∙ w.summed

    whole : sum_from r (drop (i + 1) ks) ≡ total list
    whole = more ∙ ap (sum_from zeros) (sym (kids-of ks))

    found_here : at ≤ most_of by (total list) → ◌≡◌ {A = ℕ × TextSum} (i, l) (search_from (stops_at by at) i l (drop i ks)) → value (i, l) ≡ searched list by at
    found_here g f =
        searched-done list by at (omega (arith, len_is)) (total list) (most_of by (total list)) refl refl zeros i l g (omega (arith, len_is)) refl
        (record { is = f ∙ w.sought ∙ ap (search_from (stops_at by at) 0 zeros) (sym (kids-of ks)); child = omega (arith, len_is); small = w.small })

    pub walk-on : i + 1 < n → stops_at by at r ≡ false → Walked by at ks (i + 1) r
    walk-on k g =
        record {
          small = within-plus l t r i w.small p;
          sought = on (stops_at by at) ks i l t r (omega (arith, many)) own p g ∙ w.sought;
          summed = more;
        }

    pub walk-stops : stops_at by at r ≡ true → value (i, l) ≡ searched list by at
    walk-stops g =
        found_here (omega (arith, stops-within by at r g, most-grows by r (drop (i + 1) ks), ap (most_of by) whole))
        (hit (stops_at by at) ks i l t r (omega (arith, many)) own p g)

    module _ (end : i + 1 ≡ n) (top : ℕ) (highest : top ≡ most_of by r) where
      all : r ≡ total list
      all = sum-end ks (i + 1) r (omega (arith, many)) ∙ whole

      pub walk-past : top < at → refused 3 ≡ searched list by at
      walk-past g = searched-past list by at (omega (arith, len_is)) r top all highest g

      pub walk-last : at ≤ top → value (i, l) ≡ searched list by at
      walk-last g = found_here (omega (arith, ap (most_of by) all)) (last (stops_at by at) ks i l (omega (arith, many)))

-- ── the search in a slot ──

module _ (m : List ℕ) (s n : ℕ) (by : Measure) (at : ℕ) where
  abbrev ask : List Kid → Rule
  ask ks = (3, past at (most_of by (sum_from zeros ks)))

  -- what a list of len children comes to, of which ks are there
  abbrev sought : ℕ → List Kid → Outcome (ℕ × TextSum)
  sought len ks = ruled ((12, eqb len 0) ∷ ask ks ∷ too_long len ∷ []) (found_by by at ks)

  -- the rules but the first, and but the last
  abbrev later : List Rule
  later = (2, outside m s) ∷ ask (first_in m s n) ∷ too_long n ∷ []

  abbrev first : List Rule
  first = (12, eqb n 0) ∷ (2, outside m s) ∷ ask (first_in m s n) ∷ []

  pub in-none : n ≡ 0 → refused 12 ≡ searched_in m s n by at
  unfolding searched_in
  in-none h = sym (rule-applies 12 (eqb n 0) later (found_by by at (first_in m s n)) (none-yes n h))

  module _ (r : Answer ℕ) (promise : outcome r ≡ region_start m s) where
    pub in-refused : (q : Refusal) → 0 < n → r ≡ Err q → refused (refusal_number q) ≡ searched_in m s n by at
    unfolding region_start searched_in
    in-refused q h e =
        sym
        (rule-passed 12 (eqb n 0) later (found_by by at (first_in m s n)) (none-no n h)
        ∙ more-refused ((2, outside m s) ∷ []) (ask (first_in m s n) ∷ too_long n ∷ []) (slot_start s + 128) (found_by by at (first_in m s n)) (refusal_number q) (sym promise ∙ ap outcome e))

    pub in-inside : (a : ℕ) → r ≡ Ok a → outside m s ≡ false
    in-inside a e = le-ltb _ _ (region-opened r m s a promise e).0

  -- THEOREM: in a slot of the memory, among at most sixteen entries, it is the search in the list of these
  pub few-is : outside m s ≡ false → n ≤ 16 → searched_in m s n by at ≡ searched (list_of (first_in m s n)) by at
  unfolding searched_in searched ruled
  few-is there h =
      let ks = first_in m s n in
      let len = list-len ks ∙ length-take-le n (entries (region_of m s)) (omega (arith, entries-length (region_of m s))) in
      let here : searched_in m s n by at ≡ sought n ks = rw there in
      here ∙ ap (λ (k : ℕ). sought k ks) (sym len) ∙ ap (sought (list_of ks).len) (sym (kids-of ks))

-- what was found among the entries that there are, and how many were asked for
module _ (m : List ℕ) (s n : ℕ) (by : Measure) (at k : ℕ) (held : k ≡ min n 16) (some : 0 < n) (there : outside m s ≡ false) (f : Answer (ℕ × TextSum))
    (promise : outcome f ≡ searched (list_of (first_in m s k)) by at)
  where
    abbrev v : ℕ × TextSum
    v = found_by by at (first_in m s n)

    same : first_in m s k ≡ first_in m s n
    same = cut n 16 (λ h. let z : k ≡ n = omega arith in ap (first_in m s) z) (λ h. let z : k ≡ 16 = omega arith in ap (first_in m s) z ∙ all 16 (omega arith) ∙ sym (all n h))
      where
        all : (j : ℕ) → 16 ≤ j → first_in m s j ≡ entries (region_of m s)
        all j h = take_all j (entries (region_of m s)) (omega (arith, entries-length (region_of m s)))

    -- whether the list is too long is not asked yet
    early : outcome f ≡ ruled (first m s n by at) v
    unfolding searched_in ruled
    early =
        promise
        ∙ sym (few-is m s k by at there (omega arith))
        ∙ rw (past-no k 16 (omega arith), none-no k (omega arith), none-no n some, same)

    pub in-past : (q : Refusal) → f ≡ Err q → outcome f ≡ searched_in m s n by at
    unfolding searched_in
    in-past q e = ap outcome e ∙ sym (more-refused (first m s n by at) (too_long n ∷ []) v v (refusal_number q) (sym early ∙ ap outcome e))

    module _ (i : ℕ) (l : TextSum) (e : f ≡ Ok (i, l)) where
      rest : searched_in m s n by at ≡ ruled (too_long n ∷ []) v
      unfolding searched_in
      rest = more-passed (first m s n by at) (too_long n ∷ []) v (i, l) v (sym early ∙ ap outcome e)

      pub in-long : 16 < n → refused 11 ≡ searched_in m s n by at
      in-long h = sym (rest ∙ one-applies 11 (past n 16) v (past-yes n 16 h))

      pub in-few : n ≤ 16 → outcome f ≡ searched_in m s n by at
      in-few h =
          ap outcome e
          ∙ ap (λ (x : ℕ × TextSum). value x) (passed (first m s n by at) v (i, l) (sym early ∙ ap outcome e)).1
          ∙ sym (rest ∙ one-passed 11 (past n 16) v (past-no n 16 h))
