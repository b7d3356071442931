-- The marks of the slots that were met: one is set, and a tree uses its own slot.
use mathlib.Core.Path.{◌≡◌, refl, sym, ap, ◌∙◌}
use mathlib.Core.Bool.{Bool, not}
use mathlib.Core.List.{List, [], ◌∷◌}
use Prim.Native.Nat.{ℕ, zero, suc, ◌+◌, ◌≤◌, ◌<◌}
use native.Mathlib.Omega.{arith}
use native.Mathlib.Decide.{ℕ_discrete}
use lib.Dec.{eqb}
use lib.ListN.{length, get_or, set, replicate, length-replicate, get_or-replicate, get_or-eq_default}
use lib.Seq.{get_or-set_same, get_or-set_other}
use borrow.Author.Tests.{eq-eqb, ne_eqb}
use Rattle.plain.specs.Count.{bit}
use Rattle.plain.proofs.Logic.{bit_le}
use Rattle.tree.specs.Tree.{hit, uses}
use Rattle.tree.proofs.Sound.{leaf-uses, list-uses}
use Rattle.tree_check.specs.Met.{mark, Fresh, Marked}

pub hit_same : (s : ℕ) → hit s s ≡ 1
unfolding hit
hit_same s = ap bit (eq-eqb s s refl)

pub hit_other : (s x : ℕ) → (s ≡ x → ⊥) → hit s x ≡ 0
unfolding hit
hit_other s x n = ap bit (ne_eqb s x n)

pub mark-le : (seen : List ℕ) (x : ℕ) → mark seen x ≤ 1
unfolding mark
mark-le seen x = bit_le (not (eqb (get_or seen x 1) 0))

mark-is : (seen : List ℕ) (x v : ℕ) → get_or seen x 1 ≡ v → mark seen x ≡ bit (not (eqb v 0))
unfolding mark
mark-is seen x v e = ap (λ (n : ℕ). bit (not (eqb n 0))) e

mark-same : (seen later : List ℕ) (x : ℕ) → get_or later x 1 ≡ get_or seen x 1 → mark later x ≡ mark seen x
unfolding mark
mark-same seen later x e = ap (λ (n : ℕ). bit (not (eqb n 0))) e

inside : (l : List ℕ) (i : ℕ) → i < length l → get_or l i 1 ≡ get_or l i 0
inside [] i h = absurd (omega arith)
inside (a ∷ l) zero h = refl
inside (a ∷ l) (suc i) h = inside l i (omega arith)

-- ── a slot, by its byte ──

module _ (seen : List ℕ) (s : ℕ) where
  pub mark-past : length seen ≤ s → mark seen s ≡ 1
  mark-past h = mark-is seen s 1 (get_or-eq_default seen 1 h)

  module _ (h : s < length seen) where
    pub mark-met : (get_or seen s 0 ≡ 0 → ⊥) → mark seen s ≡ 1
    mark-met n = mark-is seen s (get_or seen s 0) (inside seen s h) ∙ ap (λ (b : Bool). bit (not b)) (ne_eqb (get_or seen s 0) 0 n)

    mark-not : get_or seen s 0 ≡ 0 → mark seen s ≡ 0
    mark-not z = mark-is seen s 0 (inside seen s h ∙ z)

    -- it is met now
    pub marked-now : get_or seen s 0 ≡ 0 → Marked seen (hit s) (set seen s 1)
    marked-now z = record { at = λ x. go x (ℕ_discrete s x) }
      where
        go : (x : ℕ) → Dec (s ≡ x) → mark (set seen s 1) x ≡ mark seen x + hit s x
        go x (yes e) = rw (← e) (omega (arith, mark-is (set seen s 1) s 1 (get_or-set_same seen s 1 1 h), mark-not z, hit_same s))
        go x (no n) = omega (arith, mark-same seen (set seen s 1) x (get_or-set_other seen s x 1 1 (λ e. n (sym e))), hit_other s x n)

-- ── a tree uses its own slot ──

pub uses-own : (m : List ℕ) (h s : ℕ) → 1 ≤ uses m h s s
uses-own m zero s = omega (arith, leaf-uses m s s, hit_same s)
uses-own m (suc h) s = omega (arith, list-uses m s h s, hit_same s)

pub past-bad : (m seen : List ℕ) (h s : ℕ) → length seen ≤ s → Fresh seen (uses m h s) → ⊥
past-bad m seen h s l f = omega (arith, uses-own m h s, f.at s, mark-past seen s l)

pub met-bad : (m seen : List ℕ) (h s : ℕ) → s < length seen → (get_or seen s 0 ≡ 0 → ⊥) → Fresh seen (uses m h s) → ⊥
met-bad m seen h s l n f = omega (arith, uses-own m h s, f.at s, mark-met seen s l n)

-- ── where none was met yet ──

pub mark-zeros : (n x : ℕ) → x < n → mark (replicate n 0) x ≡ 0
mark-zeros n x h = mark-is (replicate n 0) x 0 (get_or-replicate n x 0 1 h)

-- so a tree found fine there uses no slot from n on, and each below n at most once
pub uses-within : (m : List ℕ) (h s n x : ℕ) → Fresh (replicate n 0) (uses m h s) → n ≤ x → uses m h s x ≡ 0
uses-within m h s n x f l = omega (arith, f.at x, mark-past (replicate n 0) x (omega (arith, length-replicate {A = ℕ} n 0)))

pub uses-once : (m : List ℕ) (h s : ℕ) (seen : List ℕ) (x : ℕ) → Fresh seen (uses m h s) → uses m h s x ≤ 1
uses-once m h s seen x f = omega (arith, f.at x)
