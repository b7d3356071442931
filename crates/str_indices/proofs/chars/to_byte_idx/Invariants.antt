-- `chars::to_byte_idx` meets its contract. The loop's invariant: the bytes passed, and the place of what is left among those still to come,
-- make the place looked for.
use mathlib.Core.Path.{◌≡◌}
use Prim.Native.Nat.{◌+◌, ◌-◌, ◌≤◌}
use lib.ListN.{length, drop}
use Rattle.plain.specs.Place.{start_chars, place_of}
use Rattle.str_indices.proofs.chars.to_byte_idx.Given as goal

abbrev pub invariant-loop-left : goal.invariant-loop-left
invariant-loop-left l = (l.i ≤ length l.text) × (l.i + place_of start_chars (drop l.i l.text) l.left ≡ place_of start_chars l.text l.char_idx)

abbrev pub decreases-loop-left : goal.decreases-loop-left
decreases-loop-left l = length l.text - l.i
