-- `set_kid` meets its contract.
use Rattle.answer.proofs.Opened.{raised}
use mathlib.Core.Path.{refl, ap, ◌∙◌}
use Prim.Native.Nat.{ℕ}
use native.Mathlib.Omega.{arith}
use Rattle.octets.specs.Over.{overlaid}
use Rattle.pool.specs.Slot.{kid_bytes}
use Rattle.pool.proofs.Rules.{place_is, put_refused, put-done, wrote-refused, wrote-done}
use Rattle.pool.proofs.set_kid.Goals as goal

pub put_kid-requires : goal.put_kid-requires
put_kid-requires c = let a = c.args in omega (arith, place_is c.kid_start.result a.m.now a.slot a.i c.kid_start.ensures _ c.in_ok-at.was)

pub returns-in_err-at : goal.returns-in_err-at
returns-in_err-at c = rw (raised c.from_residual.ensures.1) (let a = c.args in (wrote-refused _ _ _ _ (put_refused c.kid_start.result a.m.now a.slot a.i c.kid_start.ensures a.k _ c.in_err-at.was) refl, record { slot = omega arith; bytes = omega arith; chars = omega arith; surrogates = omega arith; breaks = omega arith }))

pub returns : goal.returns
returns c =
    let a = c.args in
    let e = c.in_ok-at.was in
    (wrote-done _ _ _ _ _ (put-done c.kid_start.result a.m.now a.slot a.i c.kid_start.ensures a.k _ e) refl (c.put_kid.ensures ∙ ap (λ (n : ℕ). overlaid n (kid_bytes a.k) a.m.now) (place_is c.kid_start.result a.m.now a.slot a.i c.kid_start.ensures _ e).0), record { slot = omega arith; bytes = omega arith; chars = omega arith; surrogates = omega arith; breaks = omega arith })
