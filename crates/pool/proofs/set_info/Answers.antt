-- `set_info` meets its contract: the slot that is written is the one that stood there.
use Rattle.answer.proofs.Opened.{raised}
use mathlib.Core.Path.{refl, ap, ◌∙◌}
use Prim.Native.Nat.{ℕ}
use native.Mathlib.Omega.{arith}
use Rattle.octets.specs.Over.{overlaid}
use Rattle.pool.specs.Slot.{kid_bytes, kid_put}
use Rattle.pool.proofs.Rules.{place_is, child-is, put_refused, put-done, wrote-refused, wrote-done}
use Rattle.pool.proofs.set_info.Goals as goal

pub read_u32-child-requires : goal.read_u32-child-requires
read_u32-child-requires c =
    let a = c.args in
    let k = c.kid_start in
    omega (arith, place_is k.result a.m.now a.slot a.i k.ensures _ c.in_ok-at.was)

pub put_kid-requires : goal.put_kid-requires
put_kid-requires c =
    let a = c.args in
    let k = c.kid_start in
    omega (arith, place_is k.result a.m.now a.slot a.i k.ensures _ c.in_ok-at.was)

pub returns-in_err-at : goal.returns-in_err-at
returns-in_err-at c = rw (raised c.from_residual.ensures.1) (
    let a = c.args in
    let k = c.kid_start in
    wrote-refused _ _ _ _ (put_refused k.result a.m.now a.slot a.i k.ensures _ _ c.in_err-at.was) refl)

pub returns : goal.returns
returns c =
    let a = c.args in
    let k = c.kid_start in
    let e = c.in_ok-at.was in
    let n = c.read_u32-child in
    wrote-done _ _ _ _ _ (put-done k.result a.m.now a.slot a.i k.ensures _ _ e) refl
    (c.put_kid.ensures
    ∙ ap (λ (j : ℕ). overlaid j (kid_bytes (record { slot = n.result; info = a.new })) a.m.now) (place_is k.result a.m.now a.slot a.i k.ensures _ e).0
    ∙ ap (λ (x : ℕ). kid_put a.m.now a.slot a.i (record { slot = x; info = a.new })) (n.ensures ∙ child-is k.result a.m.now a.slot a.i k.ensures _ e))
