-- `least_of` meets its contract: by the two clauses of `least_at`.
use mathlib.Core.Path.{◌≡◌, refl}
use Prim.Native.Nat.{ℕ, zero, suc}
use native.Mathlib.Omega.{arith}
use Rattle.tree.specs.Tree.{least_at}
use Rattle.tree_check.proofs.least_of.Goals as goal

list-least : (h : ℕ) → (h ≡ 0 → ⊥) → 4 ≡ least_at h
unfolding least_at
list-least zero n = absurd (n refl)
list-least (suc h) n = refl

leaf-least : (h : ℕ) → h ≡ 0 → 128 ≡ least_at h
unfolding least_at
leaf-least zero e = refl
leaf-least (suc h) e = absurd (omega arith)

pub returns-then-level-eq0 : goal.returns-then-level-eq0
returns-then-level-eq0 c = leaf-least _ c.if-level-eq0.true

pub returns : goal.returns
returns c = list-least _ c.if-level-eq0.false
