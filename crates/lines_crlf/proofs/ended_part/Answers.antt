-- `ended_part` meets its contract. The loop's invariant: what has been counted, with what is still to come, is the count from a on.
use mathlib.Core.Path.{◌≡◌, ap}
use Prim.Native.Nat.{ℕ}
use native.Mathlib.Omega.{arith}
use lib.ListN.{drop}
use Rattle.plain.specs.Count.{breaks}
use Rattle.plain.proofs.Count.{break-turn}
use Rattle.lines_crlf.proofs.ended_part.Goals as goal

pub loop-i-preserved : goal.loop-i-preserved
loop-i-preserved c =
    let text = c.args.text.now in
    (omega arith, omega arith, omega arith, omega (arith, break-turn text c.loop-i.i (omega arith)))

pub returns : goal.returns
returns c =
    let text = c.args.text.now in
    let i : c.loop-i.i ≡ c.args.e = omega arith in
    (omega (arith, ap (λ (k : ℕ). breaks (drop k text)) i), omega arith)
