-- Numbers past the end of the memory are 0.
use mathlib.Core.Path.{◌≡◌}
use mathlib.Core.List.{List}
use Prim.Native.Nat.{ℕ, ◌+◌, ◌≤◌}
use native.Mathlib.Omega.{arith}
use lib.ListN.{length, get_or, get_or-eq_default}
use Rattle.octets.specs.Big.{two_at, four_at}

pub byte_past : (m : List ℕ) (i : ℕ) → length m ≤ i → get_or m i 0 ≡ 0
byte_past m i h = get_or-eq_default m 0 h

pub two_past : (m : List ℕ) (i : ℕ) → length m ≤ i → two_at m i ≡ 0
unfolding two_at
two_past m i h = omega (arith, byte_past m i h, byte_past m (i + 1) (omega arith))

pub four-past : (m : List ℕ) (i : ℕ) → length m ≤ i → four_at m i ≡ 0
unfolding four_at
four-past m i h = omega (arith, two_past m i h, two_past m (i + 2) (omega arith))
