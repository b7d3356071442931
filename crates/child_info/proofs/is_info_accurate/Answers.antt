-- `is_info_accurate` meets its contract.
use Rattle.answer.proofs.Opened.{raised}
use mathlib.Core.Path.{sym, ap, ◌∙◌}
use Prim.Native.Nat.{ℕ}
use Rattle.plain.specs.Outcome.{Outcome.refused}
use Rattle.child_info.proofs.Rules.{list_read, list-unread, accurate-no}
use Rattle.child_info.proofs.is_info_accurate.Goals as goal

pub accurate_in-requires : goal.accurate_in-requires
accurate_in-requires c =
    let a = c.args in
    let l = c.load-found in
    list_read a.m.now a.slot l.result l.ensures c.in_ok-may.was

pub returns-in_err-may : goal.returns-in_err-may
returns-in_err-may c = rw (raised c.from_residual.ensures.1) (
    let a = c.args in
    let l = c.load-found in
    let u = list-unread a.m.now a.slot l.result l.ensures _ c.in_err-may.was in
    ap (λ (n : ℕ). refused n) u.1 ∙ sym (accurate-no a.m.now a.slot u.0))
