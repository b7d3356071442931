-- `utf16::to_byte_idx` meets its contract. The loop's invariant: the bytes passed, and the place of what is left among those still to come,
-- make the place looked for.
use mathlib.Core.Path.{◌≡◌}
use Prim.Native.Nat.{◌+◌, ◌≤◌}
use lib.ListN.{length, drop}
use Rattle.plain.specs.Place.{start_units, place_of}
use Rattle.str_indices.proofs.utf16.to_byte_idx.Given as goal

abbrev pub invariant-loop-i : goal.invariant-loop-i
invariant-loop-i l = (l.i ≤ length l.text) × (l.i + place_of start_units (drop l.i l.text) l.left ≡ place_of start_units l.text l.utf16_idx)
