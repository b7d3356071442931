-- `utf8::asks` meets its contract: each arm is a row of the table.
use mathlib.Core.Path.{◌≡◌}
use Prim.Native.Nat.{ℕ, suc, ◌<◌}
use native.Mathlib.Omega.{arith}
use Rattle.plain.specs.Utf8.{row_of}
use Rattle.utf8.proofs.Classes.{row-of}
use Rattle.utf8.proofs.asks.Goals as goal

pub returns-in-1 : goal.returns-in-1
unfolding row_of
returns-in-1 c = row-of _ 1 c.in-1.is

pub returns-in-2 : goal.returns-in-2
unfolding row_of
returns-in-2 c = row-of _ 2 c.in-2.is

pub returns-in-3 : goal.returns-in-3
unfolding row_of
returns-in-3 c = row-of _ 3 c.in-3.is

pub returns-in-4 : goal.returns-in-4
unfolding row_of
returns-in-4 c = row-of _ 4 c.in-4.is

pub returns-in-5 : goal.returns-in-5
unfolding row_of
returns-in-5 c = row-of _ 5 c.in-5.is

pub returns-in-6 : goal.returns-in-6
unfolding row_of
returns-in-6 c = row-of _ 6 c.in-6.is

pub returns-in-7 : goal.returns-in-7
unfolding row_of
returns-in-7 c = row-of _ 7 c.in-7.is

pub returns-in-8 : goal.returns-in-8
unfolding row_of
returns-in-8 c = row-of _ 8 c.in-8.is

pub returns-in-9 : goal.returns-in-9
unfolding row_of
returns-in-9 c = row-of _ 9 c.in-9.is

below : (k n : ℕ) → k < suc n → (k ≡ n → ⊥) → k < n
below k n h e = omega arith

-- k is below 10, and none of 9 to 1
pub returns-in_default : goal.returns-in_default
unfolding row_of
returns-in_default c =
    let k = c.args.k in
    let r = c.in_default.in_default-own.rest in
    let h : k < 7 = below k 7 (below k 8 (below k 9 c.requires r.1) r.0.1) r.0.0.1 in
    let l : k < 4 = below k 4 (below k 5 (below k 6 h r.0.0.0.1) r.0.0.0.0.1) r.0.0.0.0.0.1 in
    let m : k < 1 = below k 1 (below k 2 (below k 3 l r.0.0.0.0.0.0.1) r.0.0.0.0.0.0.0.1) r.0.0.0.0.0.0.0.0.1 in
    row-of k 0 (is_zero k m)
  where
    is_zero : (k : ℕ) → k < 1 → k ≡ 0
    is_zero k h = omega arith
