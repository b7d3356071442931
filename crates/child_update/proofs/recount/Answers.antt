-- `recount` meets its contract.
use Rattle.answer.proofs.Opened.{raised}
use mathlib.Core.Path.{refl, sym, ◌∙◌}
use Rattle.pool.proofs.Rules.{wrote-refused}
use Rattle.child_info.proofs.Renewing.{wrote-same, entry_set, renew-refused, renew-done}
use Rattle.child_update.proofs.recount.Goals as goal

pub returns-in_err-info : goal.returns-in_err-info
returns-in_err-info c = rw (raised c.from_residual.ensures.1) (
    let a = c.args in
    let t = c.text_info in
    wrote-refused _ _ _ _ (renew-refused a.m.now a.slot a.idx a.kid c.requires.2 t.result t.ensures _ c.in_err-info.was) refl)

pub returns : goal.returns
returns c =
    let a = c.args in
    let p = c.requires in
    let t = c.text_info in
    let done = renew-done a.m.now a.slot a.idx a.kid p.2 t.result t.ensures _ c.in_ok-info.was in
    wrote-same _ _ _ _ _ (entry_set a.m.now a.slot a.idx p.0 p.1 _ ∙ sym done) c.set_kid.ensures.0
