-- `cut` meets its contract. The loop's invariant: [end, e) is out.
use Prim.Native.Nat.{◌≤◌}
use Rattle.plain.specs.Edit.{cut_out}
use Rattle.edit_promise.specs.Turned.{text_in, Turned}
use Rattle.note_edits.proofs.cut.Given as goal

abbrev pub invariant-loop-end : goal.invariant-loop-end
invariant-loop-end l = (l.s ≤ l.end) × (l.end ≤ l.e) × Turned l.initial.m (cut_out l.end l.e (text_in l.initial.m)) l.m

abbrev pub decreases-loop-end : goal.decreases-loop-end
decreases-loop-end l = l.end
