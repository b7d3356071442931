-- The laws of `all_below`.
use mathlib.Core.Path.{◌≡◌, refl, sym, ap, ◌∙◌}
use mathlib.Core.Bool.{Bool, true, false, ◌&&◌, false≢true}
use Prim.Native.Nat.{ℕ, zero, suc, ◌+◌, ◌≤◌, ◌<◌}
use native.Mathlib.Omega.{arith}
use native.Mathlib.Decide.{ℕ_discrete}
use Rattle.plain.proofs.Logic.{and_left, and_right, and_none}
use Rattle.tree.proofs.Lists.{both}
use Rattle.memory.specs.Formed.{all_below}

module _ (f : ℕ → Bool) where
  pub below_none : all_below 0 f ≡ true
  unfolding all_below
  below_none = refl

  pub below_at : (n x : ℕ) → all_below n f ≡ true → x < n → f x ≡ true
  unfolding all_below
  below_at zero x a h = absurd (omega arith)
  below_at (suc n) x a h =
      elim (ℕ_discrete x n) [ yes e ↦ ap f e ∙ and_left (f n) (all_below n f) a | no d ↦ below_at n x (and_right (f n) (all_below n f) a) (omega arith) ]

  pub below_all : (n : ℕ) → ((x : ℕ) → x < n → f x ≡ true) → all_below n f ≡ true
  unfolding all_below
  below_all zero a = refl
  below_all (suc n) a = both (f n) (all_below n f) (a n (omega arith)) (below_all n (λ x h. a x (omega arith)))

  pub below-not : (n x : ℕ) → x < n → f x ≡ false → all_below n f ≡ false
  unfolding all_below
  below-not zero x h e = absurd (omega arith)
  below-not (suc n) x h e =
      elim (ℕ_discrete x n) [ yes q ↦ ap (λ (t : Bool). t && all_below n f) (sym (ap f q) ∙ e) | no d ↦ ap (λ (t : Bool). f n && t) (below-not n x (omega arith) e) ∙ and_none (f n) ]

  -- a run of numbers that pass
  pub below-run : (n k : ℕ) → ((x : ℕ) → n ≤ x → x < n + k → f x ≡ true) → all_below n f ≡ all_below (n + k) f
  unfolding all_below
  below-run n zero a = let e : n ≡ n + 0 = omega arith in ap (λ (j : ℕ). all_below j f) e
  below-run n (suc k) a =
      let e : suc (n + k) ≡ n + suc k = omega arith in
      below-run n k (λ x h l. a x h (omega arith)) ∙ sym (ap (λ (t : Bool). t && all_below (n + k) f) (a (n + k) (omega arith) (omega arith))) ∙ ap (λ (j : ℕ). all_below j f) e

  -- one that does not pass among fewer
  pub below_less : (n k : ℕ) → n ≤ k → all_below n f ≡ false → all_below k f ≡ false
  below_less n k h e = go (all_below k f) refl
    where
      go : (t : Bool) → all_below k f ≡ t → all_below k f ≡ false
      go true q = absurd (false≢true (sym e ∙ below_all n (λ x l. below_at k x q (omega arith))))
      go false q = q
