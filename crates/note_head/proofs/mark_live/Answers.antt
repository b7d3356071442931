-- `mark_live` meets its contract.
use mathlib.Core.Path.{sym}
use native.Mathlib.Omega.{arith}
use Rattle.note_head.specs.Head.{mark_start, live_at}
use Rattle.octets.proofs.Past.{byte_past}
use Rattle.note_head.proofs.mark_live.Goals as goal

pub returns-then-m-lt-MARKS_AT : goal.returns-then-m-lt-MARKS_AT
unfolding live_at
returns-then-m-lt-MARKS_AT c = let a = c.args in sym (byte_past a.m.now (mark_start a.k) (omega arith))

pub returns-then-m-k : goal.returns-then-m-k
unfolding live_at
returns-then-m-k c = let a = c.args in sym (byte_past a.m.now (mark_start a.k) (omega arith))

pub returns : goal.returns
unfolding live_at
returns c = c.byte_at.ensures
