-- The walk along the free slots: what it keeps, and what its ends say of the chain.
use mathlib.Core.Path.{◌≡◌, refl, sym, ap, subst, ◌∙◌}
use mathlib.Core.Bool.{Bool, true, false, false≢true}
use mathlib.Core.List.{List}
use Prim.Native.Nat.{ℕ, zero, suc, ◌+◌, ◌-◌, ◌≤◌, ◌<◌}
use native.Mathlib.Omega.{arith}
use lib.Dec.{eqb}
use lib.ListN.{length, length-set}
use borrow.Author.Tests.{eqb-true}
use Rattle.pool.specs.Slot.{kind_of, next_of}
use Rattle.tree.specs.Tree.{hit}
use Rattle.tree_check.proofs.Marks.{hit_same, marked-now}
use Rattle.memory.specs.Formed.{frees, chained}
use Rattle.tree_check.specs.Met.{mark}
use Rattle.memory.specs.Checks.{Took, Row, Walked}
use Rattle.memory.proofs.Chain.{chain-end, frees-end, chain-none, chain-on, frees-on, chain-here}

-- with so many steps left the walk is at a slot: the chain from there on, and the marks with those to come, are as at the start
pub record Walking (m : List ℕ) (n first : ℕ) (seen now : List ℕ) (left at : ℕ) : Type 0 where
  pub size : length now ≡ n
  pub chain : chained m n left at ≡ chained m n n first
  pub marks : (x : ℕ) → mark now x + frees m n left at x ≡ mark seen x + frees m n n first x

one_more : (left : ℕ) → 0 < left → left ≡ suc (left - 1)
one_more left h = omega arith

-- one slot more of a row, and a row from a slot up to another
pub row_more : (m seen now later : List ℕ) (s at : ℕ) → s ≤ at → Row m seen now s (at - s) → Took m now later at (at + 1) → Row m seen later s (at + 1 - s)
row_more m seen now later s at h r t =
    let p : suc (at - s) ≡ at + 1 - s = omega arith in
    let q : at ≡ s + (at - s) = omega arith in
    subst (Row m seen later s) p (now, r, subst (λ (i : ℕ). Took m now later i (i + 1)) q t)

pub row-none : (m seen : List ℕ) (s : ℕ) → Row m seen seen s (s - s)
row-none m seen s = let p : 0 ≡ s - s = omega arith in subst (Row m seen seen s) p refl

module _ (m : List ℕ) (n first : ℕ) (seen : List ℕ) where
  pub walk_start : length seen ≡ n → Walking m n first seen seen n first
  walk_start e = record { size = e; chain = refl; marks = λ x. refl }

  pub walk-on : (now later : List ℕ) (left at next : ℕ) → Walking m n first seen now left at → 0 < left → Took m now later at next → Walking m n first seen later (left - 1) next
  walk-on now later left at next w h t =
      let e = one_more left h in
      let l : at < n = omega (arith, t.here, w.size) in
      let same : next_of m at ≡ next = sym t.on in
      record {
        size = ap length t.marked ∙ length-set now at 1 ∙ w.size;
        chain = ap (chained m n (left - 1)) t.on ∙ sym (chain-on m n (left - 1) at l t.free) ∙ ap (λ (k : ℕ). chained m n k at) (sym e) ∙ w.chain;
        marks = λ x.
            let a : mark later x ≡ mark now x + hit at x = ap (λ (s : List ℕ). mark s x) t.marked ∙ (marked-now now at t.here t.new).at x in
            let b : frees m n left at x ≡ hit at x + frees m n (left - 1) (next_of m at) x = ap (λ (k : ℕ). frees m n k at x) e ∙ frees-on m n (left - 1) at x l in
            let d : frees m n (left - 1) next x ≡ frees m n (left - 1) (next_of m at) x = ap (λ (s : ℕ). frees m n (left - 1) s x) t.on in
            omega (arith, w.marks x);
      }

  -- and a row of steps
  pub walk-row : (now : List ℕ) (left at : ℕ) → Walking m n first seen now left at → (k : ℕ) (later : List ℕ) → k ≤ left → Row m now later at k → Walking m n first seen later (left - k) (at + k)
  walk-row now left at w zero later h e =
      let p : left ≡ left - 0 = omega arith in
      let q : at ≡ at + 0 = omega arith in
      subst (λ (i : ℕ). Walking m n first seen later i (at + 0)) p (subst (λ (i : ℕ). Walking m n first seen later left i) q (subst (λ (s : List ℕ). Walking m n first seen s left at) (sym e) w))
  walk-row now left at w (suc k) later h r =
      let p : left - k - 1 ≡ left - suc k = omega arith in
      let q : at + k + 1 ≡ at + suc k = omega arith in
      let one = walk-on r.0 later (left - k) (at + k) (at + k + 1) (walk-row now left at w k r.0 (omega arith) r.1) (omega arith) r.2 in
      subst (λ (i : ℕ). Walking m n first seen later i (at + suc k)) p (subst (λ (i : ℕ). Walking m n first seen later (left - k - 1) i) q one)

  module _ (now : List ℕ) (left at : ℕ) (w : Walking m n first seen now left at) where
    pub walk-there : at ≡ n → Walked m n first seen now true
    walk-there e = (
      sym w.chain ∙ ap (chained m n left) e ∙ chain-end m n left,
      (λ x. let a : frees m n left at x ≡ 0 = ap (λ (s : ℕ). frees m n left s x) e ∙ frees-end m n left x in omega (arith, w.marks x)),
    )

    pub walk-stuck : 0 < left → (at ≡ n → ⊥) → (at < length now → kind_of m at ≡ 0 → mark now at ≡ 0 → ⊥) → Walked m n first seen now false
    walk-stuck h f g c u =
        let e = one_more left h in
        let k = chain-here m n (left - 1) at f (ap (λ (k : ℕ). chained m n k at) (sym e) ∙ w.chain ∙ c) in
        let b : frees m n left at at ≡ hit at at + frees m n (left - 1) (next_of m at) at = ap (λ (k : ℕ). frees m n k at at) e ∙ frees-on m n (left - 1) at at k.0 in
        g (omega (arith, w.size)) k.1 (omega (arith, w.marks at, u at, hit_same at))

    -- no step is left
    pub walk-done : left ≡ 0 → Walked m n first seen now (eqb at n)
    walk-done e = go (eqb at n) refl
      where
        short : eqb at n ≡ false → chained m n n first ≡ true → ⊥
        short f c = false≢true (sym f ∙ sym (chain-none m n at) ∙ ap (λ (k : ℕ). chained m n k at) (sym e) ∙ w.chain ∙ c)

        go : (t : Bool) → eqb at n ≡ t → Walked m n first seen now t
        go true q = walk-there (eqb-true at n q)
        go false q = λ c u. short q c
