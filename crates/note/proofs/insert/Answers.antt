-- `insert` meets its contract: the edit of the text, and behind it, where that changed, the marks and the edit number.
use native.Mathlib.Omega.{arith}
use Rattle.plain.specs.Place.{is_start}
use Rattle.text_info.proofs.Counts.{count-le}
use Rattle.note_promise.proofs.Calls.{insert-refused, insert-idle, insert-busy, insert-short}
use Rattle.note.proofs.Follows.{none, follow-there, follow-never}
use Rattle.note.proofs.insert.Goals as goal

pub returns-in_default : goal.returns-in_default
returns-in_default c =
    let a = c.args in
    insert-refused a.m.now a.p a.piece.now _ _ c.insert-done.ensures _ c.in_default.is

pub returns-then-piece-eq0 : goal.returns-then-piece-eq0
returns-then-piece-eq0 c =
    let a = c.args in
    insert-idle a.m.now a.p a.piece.now _ _ c.insert-done.ensures _ c.in-Ok.is (none a.piece.now (omega arith))

pub overflow_cast-count : goal.overflow_cast-count
overflow_cast-count c =
    let a = c.args in
    omega (arith, c.count.ensures, count-le is_start a.piece.now, insert-short a.m.now a.p a.piece.now _ _ c.insert-done.ensures _ c.in-Ok.is)

pub returns-in_err-follow : goal.returns-in_err-follow
returns-in_err-follow c =
    let a = c.args in
    follow-never a.m.now _ _ c.insert-done.ensures c.in-Ok.is a.p a.p _ _ _ c.follow.ensures _ c.in_err-follow.was

pub returns : goal.returns
returns c =
    let a = c.args in
    let w = c.insert-done.ensures in
    insert-busy a.m.now a.p a.piece.now _ _ w _ c.in-Ok.is (omega arith) _ c.count.ensures _
    (follow-there a.m.now _ _ w c.in-Ok.is a.p a.p _ _ _ c.follow.ensures)
