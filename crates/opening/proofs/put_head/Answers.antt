-- `put_head` meets its contract: its four parts, one behind the other.
use mathlib.Core.Path.{refl}
use native.Mathlib.Omega.{arith}
use Rattle.pool.proofs.Opened.{wrote-never}
use Rattle.note_head.proofs.Laid.{number-it}
use Rattle.opening.proofs.Laid.{head-laid}
use Rattle.opening.proofs.put_head.Goals as goal

pub returns-in_err-set_slots : goal.returns-in_err-set_slots
returns-in_err-set_slots c =
    wrote-never _ _ _ _ c.set_slots.ensures _ (number-it c.args.m.now c.requires 0 c.args.n) _ c.in_err-set_slots.was

pub returns-in_err-set_first_free : goal.returns-in_err-set_first_free
returns-in_err-set_first_free c = wrote-never _ _ _ _ c.set_first_free.ensures _ (number-it _ (omega (arith, c.requires)) 32 1) _ c.in_err-set_first_free.was

pub returns : goal.returns
returns c =
    let a = c.args in
    (refl, head-laid a.m.now _ _ _ _ a.n _ _ c.requires c.set_slots.ensures c.clear.ensures c.set_first_free.ensures c.clear-2.ensures)
