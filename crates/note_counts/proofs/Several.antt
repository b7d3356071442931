-- Several indices: whether one is past its end, each turned in its place, and what that comes to on the note.
use Rattle.std.specs.List.{list_any}
use mathlib.Core.Path.{◌≡◌, refl, sym, ap, subst, ◌∙◌}
use mathlib.Core.Bool.{Bool, true, false, ◌||◌, false≢true}
use mathlib.Core.List.{List, [], ◌∷◌, ◌++◌, append-nil, map}
use Prim.Native.Nat.{ℕ, zero, suc, ◌+◌, ◌≤◌, ◌<◌}
use native.Mathlib.Omega.{arith}
use lib.ListN.{length, get_or, set, take, drop, length-set, drop_of_length-le}
use lib.Seq.{drop-cons, append_snoc, take_all, take-suc-set, drop-set-lt}
use borrow.Author.Tests.{ltb-false}
use Rattle.plain.specs.Outcome.{Outcome, Outcome.value, Outcome.refused, past, mapped}
use Rattle.plain.proofs.Logic.{neither}
use Rattle.plain.proofs.Outcome.{one-applies, one-passed}
use Rattle.plain_note.specs.Note.{Note, most_by, converted}
use Rattle.note_counts.specs.declared.Count.{Count}
use Rattle.note_counts.specs.Counts.{measure, turned_in, any_past, every, converted_all}

-- ── whether one is past its end ──

any_none : (end : ℕ) → any_past end [] ≡ false
unfolding any_past
any_none end = refl

any-cons : (end i : ℕ) (is : List ℕ) → any_past end (i ∷ is) ≡ (past i end || any_past end is)
unfolding any_past
any-cons end i is = refl

pub any-listed : (end : ℕ) (is : List ℕ) → list_any (λ i. past i end) is ≡ any_past end is
unfolding any_past
any-listed end [] = refl
any-listed end (i ∷ is) = ap (λ (t : Bool). past i end || t) (any-listed end is)

-- where none is, each lies within
pub each_within : (end : ℕ) (is : List ℕ) → any_past end is ≡ false → (j : ℕ) → j < length is → get_or is j 0 ≤ end
each_within end [] e j h = absurd (omega arith)
each_within end (i ∷ is) e zero h = ltb-false end i (neither _ _ (sym (any-cons end i is) ∙ e)).0
each_within end (i ∷ is) e (suc j) h = each_within end is (neither (past i end) _ (sym (any-cons end i is) ∙ e)).1 j (omega arith)

-- ── one turned after the other ──

module _ (f : ℕ → ℕ) (was : List ℕ) where
  -- the first k are turned, the others as they were
  pub record Turning (k : ℕ) (is : List ℕ) : Type 0 where
    pub long : length is ≡ length was
    pub front : map f was ≡ take k is ++ map f (drop k was)
    pub back : drop k is ≡ drop k was

  pub turning-start : Turning 0 was
  turning-start = record { long = refl; front = refl; back = refl }

  module _ (k : ℕ) (is : List ℕ) (t : Turning k is) (inside : k < length is) where
    both : get_or is k 0 ∷ drop (suc k) is ≡ get_or was k 0 ∷ drop (suc k) was
    both = sym (drop-cons is k 0 inside) ∙ t.back ∙ drop-cons was k 0 (omega (arith, t.long))

    pub still : get_or is k 0 ≡ get_or was k 0
    still = ap (λ (l : List ℕ). get_or l 0 0) both

    abbrev new : ℕ
    new = f (get_or is k 0)

    step : Turning (suc k) (set is k new)
    step =
        let more = map f (drop (suc k) was) in
        record {
          long = length-set is k new ∙ t.long;
          front = t.front ∙ ap (λ (l : List ℕ). take k is ++ map f l) (drop-cons was k 0 (omega (arith, t.long)))
              ∙ ap (λ (x : ℕ). take k is ++ (f x ∷ more)) (sym still)
              ∙ sym (append_snoc (take k is) new more)
              ∙ ap (λ (l : List ℕ). l ++ more) (sym (take-suc-set is k new inside));
          back = drop-set-lt (suc k) is k new (omega arith) ∙ ap (drop 1) both;
        }

    pub turning-next : (after : List ℕ) → after ≡ set is k (f (get_or is k 0)) → Turning (k + 1) after
    turning-next after e =
        let z : suc k ≡ k + 1 = omega arith in
        subst (λ (l : List ℕ). Turning (k + 1) l) (sym e) (subst (λ (j : ℕ). Turning j (set is k new)) z step)

  pub turning-end : (k : ℕ) (is : List ℕ) → Turning k is → length is ≤ k → is ≡ map f was
  turning-end k is t h =
      let past-it : length was ≤ k = omega (arith, t.long) in
      sym (t.front ∙ ap (λ (l : List ℕ). take k is ++ map f l) (drop_of_length-le was past-it) ∙ append-nil (take k is) ∙ take_all k is h)

-- ── on the note ──

module _ (from to : Count) (N : Note) where
  abbrev end : ℕ
  end = most_by (measure from) N.text

  abbrev one : ℕ → Outcome ℕ
  one i = converted (measure from) (measure to) N i

  one-past : (i : ℕ) → past i end ≡ true → one i ≡ refused 3
  unfolding converted
  one-past i e = one-applies 3 (past i end) (turned_in from to N.text i) e

  one-done : (i : ℕ) → past i end ≡ false → one i ≡ value (turned_in from to N.text i)
  unfolding converted
  one-done i e = one-passed 3 (past i end) (turned_in from to N.text i) e

  every-past : (is : List ℕ) → any_past end is ≡ true → every (map one is) ≡ refused 3
  unfolding every
  every-past [] e = absurd (false≢true (sym (any_none end) ∙ e))
  every-past (i ∷ is) e = go (past i end) refl (sym (any-cons end i is) ∙ e) (every-past is)
    where
      go : (t : Bool) → past i end ≡ t → (past i end || any_past end is) ≡ true → (any_past end is ≡ true → every (map one is) ≡ refused 3) → every (one i ∷ map one is) ≡ refused 3
      go true p q others = ap (λ (o : Outcome ℕ). every (o ∷ map one is)) (one-past i p)
      go false p q others =
          ap (λ (o : Outcome ℕ). every (o ∷ map one is)) (one-done i p)
          ∙ ap (mapped (λ rest. turned_in from to N.text i ∷ rest)) (others (sym (ap (λ (t : Bool). t || any_past end is) p) ∙ q))

  every-done : (is : List ℕ) → any_past end is ≡ false → every (map one is) ≡ value (map (turned_in from to N.text) is)
  unfolding every
  every-done [] e = refl
  every-done (i ∷ is) e =
      let n = neither (past i end) (any_past end is) (sym (any-cons end i is) ∙ e) in
      ap (λ (o : Outcome ℕ). every (o ∷ map one is)) (one-done i n.0)
      ∙ ap (mapped (λ rest. turned_in from to N.text i ∷ rest)) (every-done is n.1)

  -- THEOREM: refused by 3 where one is past its end, else each is turned
  pub all_past : (is : List ℕ) → any_past (most_by (measure from) N.text) is ≡ true → converted_all from to is N ≡ refused 3
  unfolding converted_all
  all_past is e = every-past is e

  pub all_done : (is : List ℕ) → any_past (most_by (measure from) N.text) is ≡ false → converted_all from to is N ≡ value (map (turned_in from to N.text) is)
  unfolding converted_all
  all_done is e = every-done is e
