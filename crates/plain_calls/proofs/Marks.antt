-- The laws of marks: the number that is taken next, one mark set or freed, and where an edit moves them to.
use mathlib.Core.Path.{◌≡◌, refl, sym, ap, ◌∙◌}
use mathlib.Core.Logic.{◌↔◌}
use mathlib.Core.Bool.{Bool, true, false, false≢true}
use mathlib.Core.List.{List, [], ◌∷◌}
use Prim.Native.Nat.{ℕ, zero, suc, ◌+◌, ◌-◌, ◌≤◌, ◌<◌}
use native.Mathlib.Omega.{arith}
use native.Mathlib.Nat.{not-suc-le-zero}
use lib.Dec.{eqb}
use lib.ListN.{length, get_or, set, get_or-map}
use lib.Seq.{get_or-set_same, get_or-set_other}
use borrow.Author.Tests.{lt-ltb, le-ltb, eqb-true, eqb-false}
use Rattle.plain.proofs.Logic.{cut}
use Rattle.plain_note.specs.Note.{Note, Mark, Mark.free, Mark.at}
use Rattle.plain_calls.specs.Marks.{is_free, mark_of, lowest, moved_to, moved}
use Rattle.plain_calls.specs.Calls.{edited, marked}

-- ── the number that is taken next ──

-- THEOREM: it is free, and every lower one is live
pub lowest-free : (ms : List Mark) → get_or ms (lowest ms) free ≡ free
unfolding lowest
lowest-free [] = refl
lowest-free (free ∷ ms) = refl
lowest-free (at q ∷ ms) = lowest-free ms

pub below-live : (ms : List Mark) (i : ℕ) → i < lowest ms → is_free (get_or ms i free) ≡ false
unfolding lowest
below-live [] i h = absurd (not-suc-le-zero h)
below-live (free ∷ ms) i h = absurd (not-suc-le-zero h)
below-live (at q ∷ ms) zero h = refl
below-live (at q ∷ ms) (suc i) h = below-live ms i (omega arith)

-- THEOREM: it is one of the n numbers exactly if one of the n marks is free
pub some-free : (ms : List Mark) (n : ℕ) → length ms ≡ n → (lowest ms < n) ↔ ((k : ℕ) × (k < n) × (is_free (get_or ms k free) ≡ true))
some-free ms n e = (
  λ h. (lowest ms, h, ap is_free (lowest-free ms)),
  λ r. cut r.0 (lowest ms) (λ k. absurd (false≢true (sym (below-live ms r.0 k) ∙ r.2))) (λ k. omega (arith, r.1)),
)

-- ── one mark set or freed ──

-- two numbers are the same, or are not
pub same_or_not : {P : Type 0} (j k : ℕ) → (eqb j k ≡ true → j ≡ k → P) → (eqb j k ≡ false → (k ≡ j → ⊥) → P) → P
same_or_not {P} j k f g = go (eqb j k) refl
  where
    go : (t : Bool) → eqb j k ≡ t → P
    go true e = f e (eqb-true j k e)
    go false e = g e (λ x. eqb-false j k e (sym x))

module _ (N : Note) (j : ℕ) where
  pub marked-at : (q : ℕ) → j < length N.marks → mark_of (marked j (at q) N) j ≡ at q
  marked-at q h = get_or-set_same N.marks j (at q) free h

  pub marked-free : mark_of (marked j free N) j ≡ free
  marked-free = go N.marks j
    where
      go : (ms : List Mark) (j : ℕ) → get_or (set ms j free) j free ≡ free
      go [] j = refl
      go (m ∷ ms) zero = refl
      go (m ∷ ms) (suc j) = go ms j

  pub marked_other : (m : Mark) (k : ℕ) → (k ≡ j → ⊥) → mark_of (marked j m N) k ≡ mark_of N k
  marked_other m k h = get_or-set_other N.marks j k m free h

-- ── where an edit moves them to ──

pub marks-moved : (s e : ℕ) (new : List ℕ) (N : Note) (k : ℕ) → mark_of (edited s e new N) k ≡ moved (moved_to s e (length new)) (mark_of N k)
marks-moved s e new N k = get_or-map (moved (moved_to s e (length new))) N.marks k free

module _ (s e m q : ℕ) where
  pub moved-behind : s ≤ e → e ≤ q → moved_to s e m q ≡ q - (e - s) + m
  unfolding moved_to
  moved-behind h k = let z : s ≤ q = omega arith in rw (le-ltb q s z, le-ltb q e k)

  pub moved_inside : s ≤ q → q < e → moved_to s e m q ≡ s
  unfolding moved_to
  moved_inside h k = rw (le-ltb q s h, lt-ltb q e k)

  pub moved_before : q < s → moved_to s e m q ≡ q
  unfolding moved_to
  moved_before h = rw (lt-ltb q s h)

  -- a place of a text is moved to one of the edited text
  pub moved-within : (l : ℕ) → s ≤ e → e ≤ l → q ≤ l → moved_to s e m q ≤ s + m + (l - e)
  moved-within l h k r =
      cut q s (λ a. omega (arith, moved_before a)) (λ a.
      cut q e (λ b. omega (arith, moved_inside a b)) (λ b. omega (arith, moved-behind h b)))

  -- where nothing is put in the place of something, all from the start on go as far behind the new as they were behind the end
  pub moved_on : s ≤ e → (s < e → m ≡ 0) → s ≤ q → moved_to s e m q ≡ s + m + (q - e)
  moved_on h one k = cut q e (λ a. omega (arith, moved_inside k a, one (omega arith))) (λ a. omega (arith, moved-behind h a))

-- THEOREM: as document 01 has it: an insertion at p of m chars, and a removal of [s, e)
pub insert-moves : (p m q : ℕ) → p ≤ q → moved_to p p m q ≡ q + m
insert-moves p m q h = omega (arith, moved-behind p p m q (omega arith) h)

pub remove-moves : (s e q : ℕ) → s ≤ e → e ≤ q → moved_to s e 0 q ≡ q - (e - s)
remove-moves s e q h k = omega (arith, moved-behind s e 0 q h k)
