-- `need` meets its contract: the slots that the head says.
use mathlib.Core.Path.{ap}
use Prim.Native.Nat.{ℕ}
use Rattle.plain_note.specs.Note as note
use Rattle.note_head.proofs.need.Goals as goal

pub returns : goal.returns
returns c = ap (λ (n : ℕ). note.need n) c.slots.ensures.0
