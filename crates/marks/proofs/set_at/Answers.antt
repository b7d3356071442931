-- `set_at` meets its contract: the place is written, and then that the mark is live.
use Rattle.std.proofs.Common.{refl, arith}
use Rattle.pool.proofs.Rules.{wrote-refused}
use Rattle.note_head.proofs.Laid.{mark-short, mark-none, place-there}
use Rattle.marks.specs.MarkBytes.{mark_put, mark_set}
use Rattle.marks.proofs.Rules.{set-wrote, place-never}
use Rattle.marks.proofs.set_at.Goals as goal

pub returns-then-m-lt-HEAD_BYTES : goal.returns-then-m-lt-HEAD_BYTES
unfolding mark_set
returns-then-m-lt-HEAD_BYTES c = let a = c.args in wrote-refused _ _ _ 2 (mark-short a.m.now a.k (mark_put a.m.now a.k a.place) (omega arith)) refl

pub returns-then-k-ge-MARKS : goal.returns-then-k-ge-MARKS
unfolding mark_set
returns-then-k-ge-MARKS c = let a = c.args in wrote-refused _ _ _ 7 (mark-none a.m.now a.k (mark_put a.m.now a.k a.place) (omega arith) (omega arith)) refl

pub returns-in_err-set_mark_place : goal.returns-in_err-set_mark_place
returns-in_err-set_mark_place c =
    let a = c.args in
    place-never a.m.now (omega arith) a.k (omega arith) a.place _ _ c.set_mark_place.ensures _ c.in_err-set_mark_place.was

pub returns : goal.returns
returns c =
    let a = c.args in
    set-wrote a.m.now (omega arith) a.k (omega arith) a.place _ (omega arith)
    (place-there a.m.now (omega arith) a.k (omega arith) a.place _ _ c.set_mark_place.ensures)
    _ _ c.set_mark_live.ensures
