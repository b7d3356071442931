-- The free slots as a chain: one link more, its end, and what the walk along it keeps.
use mathlib.Core.Path.{◌≡◌, refl, sym, ◌∙◌}
use mathlib.Core.Bool.{true, ◌&&◌}
use mathlib.Core.List.{List}
use Prim.Native.Nat.{ℕ, zero, suc, ◌+◌, ◌≤◌, ◌<◌}
use native.Mathlib.Omega.{arith}
use lib.Dec.{eqb, ltb}
use borrow.Author.Tests.{eq-eqb, ne_eqb, eqb-true, lt-ltb, le-ltb, ltb-true}
use Rattle.plain.proofs.Logic.{cut, and_left, and_right}
use Rattle.pool.specs.Slot.{kind_of, next_of}
use Rattle.tree.specs.Tree.{hit}
use Rattle.tree_check.proofs.Marks.{hit_other}
use Rattle.memory.specs.Formed.{frees, chained}

module _ (m : List ℕ) (n : ℕ) where
  -- ── the end ──

  pub chain-end : (k : ℕ) → chained m n k n ≡ true
  unfolding chained
  chain-end zero = eq-eqb n n refl
  chain-end (suc k) = rw (eq-eqb n n refl)

  pub frees-end : (k x : ℕ) → frees m n k n x ≡ 0
  unfolding frees
  frees-end zero x = refl
  frees-end (suc k) x = rw (le-ltb n n (omega arith))

  pub chain-none : (s : ℕ) → chained m n 0 s ≡ eqb s n
  unfolding chained
  chain-none s = refl

  pub frees-none : (s x : ℕ) → frees m n 0 s x ≡ 0
  unfolding frees
  frees-none s x = refl

  -- ── a link ──

  module _ (k s : ℕ) where
    pub chain-on : s < n → kind_of m s ≡ 0 → chained m n (suc k) s ≡ chained m n k (next_of m s)
    unfolding chained
    chain-on h e = rw (ne_eqb s n (λ q. omega arith), lt-ltb s n h, e)

    pub frees-on : (x : ℕ) → s < n → frees m n (suc k) s x ≡ hit s x + frees m n k (next_of m s) x
    unfolding frees
    frees-on x h = rw (lt-ltb s n h)

    pub chain-here : (s ≡ n → ⊥) → chained m n (suc k) s ≡ true → (s < n) × (kind_of m s ≡ 0)
    unfolding chained
    chain-here f e =
        let a : (ltb s n && (eqb (kind_of m s) 0 && chained m n k (next_of m s))) ≡ true = sym (rw (ne_eqb s n f)) ∙ e in
        (ltb-true s n (and_left _ _ a), eqb-true (kind_of m s) 0 (and_left (eqb (kind_of m s) 0) _ (and_right (ltb s n) _ a)))

    frees-out : (x : ℕ) → n ≤ s → frees m n (suc k) s x ≡ 0
    unfolding frees
    frees-out x h = rw (le-ltb s n h)

  -- no slot from n on is in it
  pub frees-past : (k s x : ℕ) → n ≤ x → frees m n k s x ≡ 0
  frees-past zero s x h = frees-none s x
  frees-past (suc k) s x h =
      cut s n (λ l. frees-on k s x l ∙ (let a = hit_other s x (λ q. omega arith) in let b = frees-past k (next_of m s) x h in omega arith)) (λ l. frees-out k s x l)
