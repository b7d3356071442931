-- The sum of the counts, before and after one of them goes up.
use mathlib.Core.Path.{◌≡◌}
use mathlib.Core.List.{List, [], ◌∷◌}
use Prim.Native.Nat.{ℕ, zero, suc, ◌+◌, ◌≤◌, ◌<◌}
use native.Mathlib.Omega.{arith}
use lib.ListN.{length, get_or, set}
use Rattle.replay.specs.Turns.{sum}

-- no count is above the sum
pub at_most : (xs : List ℕ) (i : ℕ) → get_or xs i 0 ≤ sum xs
unfolding sum
at_most [] i = omega arith
at_most (x ∷ xs) zero = omega arith
at_most (x ∷ xs) (suc i) = omega (arith, at_most xs i)

-- the sum goes up with it
pub one_more : (xs : List ℕ) (i : ℕ) → i < length xs → sum (set xs i (get_or xs i 0 + 1)) ≡ sum xs + 1
unfolding sum
one_more [] i h = omega arith
one_more (x ∷ xs) zero h = omega arith
one_more (x ∷ xs) (suc i) h = omega (arith, one_more xs i (omega arith))
