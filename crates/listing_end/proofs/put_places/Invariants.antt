-- `put_places` meets its contract.
use mathlib.Core.Path.{◌≡◌}
use mathlib.Core.List.{List}
use Prim.Native.Nat.{ℕ, ◌≤◌}
use lib.ListN.{length}
use Rattle.memory.specs.Formed.{note_of}
use Rattle.listing_lines.specs.Puts.{Laid}
use Rattle.listing_end.specs.MarkLines.{places}
use Rattle.listing_end.proofs.Laws.{Rows}
use Rattle.listing_end.proofs.put_places.Given as goal

abbrev pub invariant-loop-mark : goal.invariant-loop-mark
invariant-loop-mark l = (l.mark ≤ 256) × (l.n ≤ l.mark) × (length l.out ≡ length l.initial.out) × ((done : List ℕ) × Laid 0 done l.initial.out l.n l.out × Rows (λ j. places) (note_of l.m).marks l.mark done)
