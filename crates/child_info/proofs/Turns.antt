-- Tests one after another, and a test of some child, a turn of a loop at a time: the loop stands at the i-th of a list.
use mathlib.Core.Path.{◌≡◌, refl, sym, ap, ◌∙◌}
use mathlib.Core.Bool.{Bool, true, false, ◌&&◌, ◌||◌}
use mathlib.Core.List.{List, [], ◌∷◌}
use Prim.Native.Nat.{ℕ, suc, ◌+◌, ◌≤◌, ◌<◌}
use native.Mathlib.Numerals.{add-one}
use lib.Dec.{eqb}
use lib.ListN.{length, drop, get_or, drop_of_length-le}
use lib.Seq.{drop-cons}
use Rattle.pool.specs.declared.Kid.{Kid}
use Rattle.pool.specs.Slot.{no_kid}
use Rattle.child_info.specs.declared.checks.Ask.{Ask}
use Rattle.child_info.specs.Kin.{asks_of, some_of, slots_of, among, repeats}

-- ── tests one after another ──

pub both : (a b c : Bool) → a ≡ true → c ≡ b → c ≡ (a && b)
both a b c e f = rw e f

pub not-both : (a b : Bool) → a ≡ false → false ≡ (a && b)
not-both a b e = sym (rw e)

pub first : (a b : Bool) → a ≡ true → true ≡ (a || b)
first a b e = sym (rw e)

pub then : (a b c : Bool) → a ≡ false → c ≡ b → c ≡ (a || b)
then a b c e f = rw e f

-- ── a test of some child ──

-- a test f of a list that is one of its first child or of the rest
pub record Of (f : List Kid → Bool) (g : Kid → List Kid → Bool) : Type 0 where
  pub none : f [] ≡ false
  pub one : (k : Kid) (ks : List Kid) → f (k ∷ ks) ≡ (g k ks || f ks)

module _ (f : List Kid → Bool) (g : Kid → List Kid → Bool) (law : Of f g) (l : List Kid) (i : ℕ) where
  step : i < length l → f (drop i l) ≡ (g (get_or l i no_kid) (drop (i + 1) l) || f (drop (i + 1) l))
  step h = ap f (drop-cons l i no_kid h) ∙ law.one (get_or l i no_kid) (drop (suc i) l) ∙ sym (rw add-one)

  -- it holds of this child
  pub turn-hit : i < length l → g (get_or l i no_kid) (drop (i + 1) l) ≡ true → true ≡ f (drop i l)
  turn-hit h e = first (g (get_or l i no_kid) (drop (i + 1) l)) (f (drop (i + 1) l)) e ∙ sym (step h)

  -- or does not
  pub turn_on : i < length l → g (get_or l i no_kid) (drop (i + 1) l) ≡ false → f (drop (i + 1) l) ≡ f (drop i l)
  turn_on h e = then (g (get_or l i no_kid) (drop (i + 1) l)) (f (drop (i + 1) l)) (f (drop (i + 1) l)) e refl ∙ sym (step h)

  -- and there is no child left
  pub turn_end : length l ≤ i → false ≡ f (drop i l)
  turn_end h = sym (ap f (drop_of_length-le l h) ∙ law.none)

pub some-law : (q : Ask) (m : List ℕ) → Of (some_of q m) (λ k ks. asks_of q m k)
unfolding some_of
some-law q m = record { none = refl; one = λ k ks. refl }

pub among-law : (s : ℕ) → Of (λ ks. among s (slots_of ks)) (λ k ks. eqb k.slot s)
among-law s = record { none = refl; one = λ k ks. refl }

pub repeats-law : Of (λ ks. repeats (slots_of ks)) (λ k ks. among k.slot (slots_of ks))
repeats-law = record { none = refl; one = λ k ks. refl }
