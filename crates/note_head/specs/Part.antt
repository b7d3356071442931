-- A part of lent bytes, and not a copy of them: it lies in the same block of memory, so many bytes behind their start, and ends where they end or before.
use Rattle.std.specs.Prelude.{◌≡◌, List, ℕ, ◌+◌, ◌≤◌, length}
use Rattle.std.specs.Borrow.{Bor}

pub record PartOf (r m : Bor (List ℕ)) : Type 0 where
  pub from : ℕ
  pub block : r.ref_ptr.0 ≡ m.ref_ptr.0
  pub offset : r.ref_ptr.1 ≡ m.ref_ptr.1 + from
  pub inside : from + length r.now ≤ length m.now
