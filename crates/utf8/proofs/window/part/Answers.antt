-- `window::part` meets its contract. The loop's invariant: what it promises, of the windows passed.
use mathlib.Core.Path.{◌≡◌, subst}
use Prim.Native.Nat.{ℕ}
use native.Mathlib.Omega.{arith}
use Rattle.utf8.specs.Window.{Parted}
use Rattle.utf8.proofs.Loops.{part_none, part-more}
use Rattle.utf8.proofs.window.part.Goals as goal

pub loop-i-init : goal.loop-i-init
loop-i-init c = (omega arith, omega arith, part_none _ _ _)

pub loop-i-preserved : goal.loop-i-preserved
loop-i-preserved c =
    let a = c.args in
    let i = c.loop-i.i in
    (omega arith, omega arith, part-more a.far a.text.now a.a i c.loop-i.w c.window-w.result (omega arith) (omega arith) (omega arith) c.loop-i.invariant.2 c.window-w.ensures)

pub returns : goal.returns
returns c =
    let a = c.args in
    let same : c.loop-i.i ≡ a.e = omega arith in
    subst (λ (k : ℕ). Parted a.far a.text.now a.a k c.loop-i.w) same c.loop-i.invariant.2
