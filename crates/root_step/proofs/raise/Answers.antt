-- `raise` meets its contract: counts too wide, no free slot, or the list stored and put on top.
use Rattle.answer.proofs.Opened.{raised}
use native.Mathlib.Omega.{arith}
use Rattle.root_step.proofs.Rules.{some-taken, first-narrow, raise-wide, raise-full, raise-never, raise-done}
use Rattle.root_step.proofs.raise.Goals as goal

pub returns-in_err-store : goal.returns-in_err-store
returns-in_err-store c =
    let a = c.args in
    let o = c.list_info in
    raise-never a.m.now a.list a.h (omega (arith, c.requires.0)) o.result o.ensures _ c.in_ok-info.was _ _ c.take_slot.ensures _ c.in_ok-new.was _ _ c.store.ensures _ c.in_err-store.was

pub overflow_cast-top : goal.overflow_cast-top
overflow_cast-top c =
    let a = c.args in
    omega (arith, (some-taken a.m.now _ _ c.take_slot.ensures _ c.in_ok-new.was).first, first-narrow a.m.now (λ i. omega (arith, c.slice_known-1.given i)))

pub returns-in_err-info : goal.returns-in_err-info
returns-in_err-info c = rw (raised c.from_residual.ensures.1) (
    let a = c.args in
    let o = c.list_info in
    raise-wide a.m.now a.list a.h (omega (arith, c.requires.0)) o.result o.ensures _ c.in_err-info.was)

pub returns-in_err-new : goal.returns-in_err-new
returns-in_err-new c = rw (raised c.from_residual-in_err-new.ensures.1) (
    let a = c.args in
    let o = c.list_info in
    raise-full a.m.now a.list a.h (omega (arith, c.requires.0)) o.result o.ensures _ c.in_ok-info.was _ _ c.take_slot.ensures _ c.in_err-new.was)

pub returns : goal.returns
returns c =
    let a = c.args in
    let o = c.list_info in
    raise-done a.m.now a.list a.h (omega (arith, c.requires.0)) o.result o.ensures _ c.in_ok-info.was _ _ c.take_slot.ensures c.requires.1 _ c.in_ok-new.was _ _ c.store.ensures _ _ c.put_top.ensures
