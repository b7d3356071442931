-- `remove` meets its contract: the edit of the text, and behind it, where that changed, the marks and the edit number.
use native.Mathlib.Omega.{arith}
use Rattle.note_promise.proofs.Calls.{remove-refused, remove-idle, remove-busy}
use Rattle.note.proofs.Follows.{follow-there, follow-never}
use Rattle.note.proofs.remove.Goals as goal

pub returns-in_default : goal.returns-in_default
returns-in_default c =
    let a = c.args in
    remove-refused a.m.now a.s a.e _ _ c.remove-done.ensures _ c.in_default.is

pub returns-then-s-e : goal.returns-then-s-e
returns-then-s-e c =
    let a = c.args in
    remove-idle a.m.now a.s a.e _ _ c.remove-done.ensures _ c.in-Ok.is (omega arith)

pub returns-in_err-follow : goal.returns-in_err-follow
returns-in_err-follow c =
    let a = c.args in
    follow-never a.m.now _ _ c.remove-done.ensures c.in-Ok.is a.s a.e _ _ _ c.follow.ensures _ c.in_err-follow.was

pub returns : goal.returns
returns c =
    let a = c.args in
    let w = c.remove-done.ensures in
    remove-busy a.m.now a.s a.e _ _ w _ c.in-Ok.is (λ z. omega arith) _
    (follow-there a.m.now _ _ w c.in-Ok.is a.s a.e _ _ _ c.follow.ensures)
