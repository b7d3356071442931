-- `put_rows` meets its contract.
use mathlib.Core.Path.{◌≡◌}
use mathlib.Core.List.{List}
use Prim.Native.Nat.{ℕ, ◌+◌, ◌*◌, ◌≤◌}
use lib.ListN.{length}
use Rattle.memory.specs.Formed.{note_of}
use Rattle.plain_journal.specs.Listing.{mark_rows}
use Rattle.listing_lines.specs.Puts.{Laid}
use Rattle.listing_end.specs.MarkLines.{Due}
use Rattle.listing_end.proofs.Laws.{Rows}
use Rattle.listing_end.proofs.put_rows.Given as goal

abbrev pub invariant-loop-k : goal.invariant-loop-k
invariant-loop-k l = (l.k ≤ 256) × (l.put.end ≤ l.at + 80 * l.k) × (length l.out ≡ length l.initial.out) × Due (note_of l.m) l.k l.put.count l.lines
    × ((done : List ℕ) × Laid l.at done l.initial.out l.put.end l.out × Rows (mark_rows (note_of l.m).text) (note_of l.m).marks l.k done)
