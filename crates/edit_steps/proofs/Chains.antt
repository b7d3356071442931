-- The chain of free slots: as it was where its slots are; with as many steps as it has slots; without its first slot, and with one more before it.
use mathlib.Core.Path.{◌≡◌, refl, sym, ap, ◌∙◌}
use mathlib.Core.Bool.{true}
use mathlib.Core.List.{List}
use Prim.Native.Nat.{ℕ, zero, suc, ◌+◌, ◌≤◌, ◌<◌}
use native.Mathlib.Omega.{arith}
use native.Mathlib.Decide.{ℕ_discrete}
use lib.ListN.{take}
use borrow.Author.Tests.{eqb-true}
use Rattle.pool.specs.Slot.{slot_of, kind_of, next_of}
use Rattle.pool.proofs.Slots.{head-same}
use Rattle.tree.specs.Tree.{hit}
use Rattle.tree.proofs.Size.{sum_below, below-add, hits-once}
use Rattle.tree.proofs.Frame.{hit-self}
use Rattle.memory.specs.Formed.{frees, chained}
use Rattle.memory.proofs.Chain.{chain-end, frees-end, chain-none, chain-on, frees-on, chain-here}

-- ── steps ──

-- a chain ends, or goes on at a free slot
module _ (m : List ℕ) (n k s : ℕ) (e : chained m n (suc k) s ≡ true) (f : s ≡ n → ⊥) where
  pub here : (s < n) × (kind_of m s ≡ 0)
  here = chain-here m n k s f e

  pub goes_on : chained m n k (next_of m s) ≡ true
  goes_on = sym (chain-on m n k s here.0 here.1) ∙ e

  pub lists : (x : ℕ) → frees m n (suc k) s x ≡ hit s x + frees m n k (next_of m s) x
  lists x = frees-on m n k s x here.0

pub below-same : (n : ℕ) (f g : ℕ → ℕ) → ((x : ℕ) → f x ≡ g x) → sum_below n f ≡ sum_below n g
unfolding sum_below
below-same zero f g e = refl
below-same (suc n) f g e = omega (arith, e n, below-same n f g e)

-- ── as many steps as it has slots are enough, and more do not matter ──

pub record Steps (m : List ℕ) (n k j s : ℕ) : Type 0 where
  pub chain : chained m n j s ≡ true
  pub same : (x : ℕ) → frees m n j s x ≡ frees m n k s x

ended : (m : List ℕ) (n k j s : ℕ) → s ≡ n → Steps m n k j s
ended m n k j s e =
    record {
      chain = ap (chained m n j) e ∙ chain-end m n j;
      same = λ x. ap (λ (q : ℕ). frees m n j q x) e ∙ frees-end m n j x ∙ sym (ap (λ (q : ℕ). frees m n k q x) e ∙ frees-end m n k x);
    }

module _ (m : List ℕ) (n k s : ℕ) (e : chained m n (suc k) s ≡ true) (q : s ≡ n → ⊥) where
  -- one slot, and those behind it
  pub one_more : sum_below n (frees m n (suc k) s) ≡ 1 + sum_below n (frees m n k (next_of m s))
  one_more =
      below-same n (frees m n (suc k) s) (λ x. hit s x + frees m n k (next_of m s) x) (lists m n k s e q)
      ∙ below-add n (hit s) (frees m n k (next_of m s))
      ∙ omega (arith, hits-once n s (here m n k s e q).0)

  step-on : ((j : ℕ) → sum_below n (frees m n k (next_of m s)) ≤ j → Steps m n k j (next_of m s)) → (j : ℕ) → sum_below n (frees m n (suc k) s) ≤ j → Steps m n (suc k) j s
  step-on ih zero l = absurd (omega (arith, one_more))
  step-on ih (suc j) l =
      let r = ih j (omega (arith, one_more)) in
      let at = here m n k s e q in
      record {
        chain = chain-on m n j s at.0 at.1 ∙ r.chain;
        same = λ x. omega (arith, frees-on m n j s x at.0, r.same x, lists m n k s e q x);
      }

pub steps : (m : List ℕ) (n k j s : ℕ) → chained m n k s ≡ true → sum_below n (frees m n k s) ≤ j → Steps m n k j s
steps m n zero j s e l = ended m n 0 j s (eqb-true s n (sym (chain-none m n s) ∙ e))
steps m n (suc k) j s e l =
    elim (ℕ_discrete s n) [
      | yes q ↦ ended m n (suc k) j s q
      | no q ↦ step-on m n k s e q (λ i g. steps m n k i (next_of m s) (goes_on m n k s e q) g) j l
    ]

-- ── as it was where its slots are ──

module _ (m later : List ℕ) (n : ℕ) where
  pub record KeptChain (k s : ℕ) : Type 0 where
    pub chain : chained later n k s ≡ true
    pub same : (x : ℕ) → frees later n k s x ≡ frees m n k s x

  stays : (k s : ℕ) → s ≡ n → KeptChain k s
  stays k s e =
      record {
        chain = ap (chained later n k) e ∙ chain-end later n k;
        same = λ x. ap (λ (q : ℕ). frees later n k q x) e ∙ frees-end later n k x ∙ sym (ap (λ (q : ℕ). frees m n k q x) e ∙ frees-end m n k x);
      }

  pub kept-chain : (k s : ℕ) → chained m n k s ≡ true → ((x : ℕ) → 1 ≤ frees m n k s x → slot_of later x ≡ slot_of m x) → KeptChain k s
  kept-chain zero s e a = stays 0 s (eqb-true s n (sym (chain-none m n s) ∙ e))
  kept-chain (suc k) s e a = elim (ℕ_discrete s n) [ yes q ↦ stays (suc k) s q | no q ↦ on q (kept-chain k (next_of m s) (goes_on m n k s e q) (λ x l. a x (omega (arith, lists m n k s e q x)))) ]
    where
      on : (q : s ≡ n → ⊥) → KeptChain k (next_of m s) → KeptChain (suc k) s
      on q r =
          let at = here m n k s e q in
          let z = head-same later m s (ap (take 128) (a s (omega (arith, lists m n k s e q s, hit-self s)))) in
          record {
            chain = chain-on later n k s at.0 (z.0 ∙ at.1) ∙ ap (chained later n k) z.2 ∙ r.chain;
            same = λ x. omega (arith, frees-on later n k s x at.0, ap (λ (i : ℕ). frees later n k i x) z.2, r.same x, lists m n k s e q x);
          }
