-- The difference of two numbers where both grow by one.
use mathlib.Core.Path.{◌≡◌, ap}
use Prim.Native.Nat.{ℕ, zero, suc, ◌≤◌, ◌<◌}
use native.Mathlib.Omega.{arith}
use lib.IntN.{pos, negsuc, sub_ℕ}
use borrow.Author.Tests.{lt-ltb, le-ltb}
use Rattle.plain.specs.Edit.{minus}
use Rattle.plain.proofs.Logic.{cut}

sub-both : (a b : ℕ) → sub_ℕ (suc a) (suc b) ≡ sub_ℕ a b
sub-both a b = cut a b below above
  where
    below : a < b → sub_ℕ (suc a) (suc b) ≡ sub_ℕ a b
    below h = rw (lt-ltb (suc a) (suc b) (omega arith), lt-ltb a b h) (ap negsuc (omega arith))

    above : b ≤ a → sub_ℕ (suc a) (suc b) ≡ sub_ℕ a b
    above h = rw (le-ltb (suc a) (suc b) (omega arith), le-ltb a b h) (ap pos (omega arith))

-- THEOREM: one more on both sides is no change.
pub minus-both : (a b : ℕ) → minus (suc a) (suc b) ≡ minus a b
minus-both a zero = rw (le-ltb (suc a) 1 (omega arith)) (ap pos (omega arith))
minus-both a (suc b) = sub-both a (suc b)
