-- `set_head` meets its contract.
use Rattle.answer.proofs.Opened.{raised}
use mathlib.Core.Path.{refl, ap, ◌∙◌}
use Prim.Native.Nat.{ℕ}
use native.Mathlib.Omega.{arith}
use Rattle.octets.specs.Over.{overlaid}
use Rattle.pool.specs.Slot.{head_bytes}
use Rattle.pool.proofs.Rules.{start_is, set-refused, set_long, set-done, wrote-refused, wrote-done}
use Rattle.pool.proofs.set_head.Goals as goal

pub returns-then-most-len : goal.returns-then-most-len
returns-then-most-len c = let a = c.args in wrote-refused _ _ _ _ (set_long c.slot_start.result a.m.now a.slot c.slot_start.ensures a.kind a.len a.most a.next _ c.in_ok-at.was c.if-most-len.true) refl

pub put_head-requires : goal.put_head-requires
put_head-requires c = let a = c.args in omega (arith, start_is c.slot_start.result a.m.now a.slot c.slot_start.ensures _ c.in_ok-at.was)

pub returns-in_err-at : goal.returns-in_err-at
returns-in_err-at c = rw (raised c.from_residual.ensures.1) (let a = c.args in wrote-refused _ _ _ _ (set-refused c.slot_start.result a.m.now a.slot c.slot_start.ensures a.kind a.len a.most a.next _ c.in_err-at.was) refl)

pub returns : goal.returns
returns c =
    let a = c.args in
    let e = c.in_ok-at.was in
    wrote-done _ _ _ _ _ (set-done c.slot_start.result a.m.now a.slot c.slot_start.ensures a.kind a.len a.most a.next _ e c.if-most-len.false) refl
    (c.put_head.ensures ∙ ap (λ (n : ℕ). overlaid n (head_bytes a.kind a.len a.next) a.m.now) (start_is c.slot_start.result a.m.now a.slot c.slot_start.ensures _ e).0)
