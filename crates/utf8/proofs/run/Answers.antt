-- `utf8::run` meets its contract. The loop's invariant: what is due of the bytes still to come is what was due at a.
use mathlib.Core.Path.{◌≡◌, ap, ◌∙◌}
use Prim.Native.Nat.{ℕ, ◌+◌}
use native.Mathlib.Omega.{arith}
use lib.ListN.{drop}
use Rattle.plain.specs.Utf8.{due}
use Rattle.utf8.proofs.Classes.{due-turn}
use Rattle.utf8.proofs.run.Goals as goal

pub loop-i-preserved : goal.loop-i-preserved
loop-i-preserved c =
    let text = c.args.text.now in
    let i = c.loop-i.i in
    (omega arith, omega arith, c.step-now.ensures (drop (i + 1) text) ∙ due-turn _ _ _ text i (omega arith) ∙ c.loop-i.invariant.2)

pub returns : goal.returns
returns c =
    let now = c.loop-i.now in
    let e : c.args.e ≡ c.loop-i.i = omega arith in
    ap (λ (k : ℕ). due now.more now.low now.high (drop k c.args.text.now)) e ∙ c.loop-i.invariant.2
