-- `parts::part_outside` meets its contract. The loop's invariant: what has been counted, with what is still to come, is the count from a on.
use mathlib.Core.Path.{◌≡◌, ap}
use Prim.Native.Nat.{ℕ}
use native.Mathlib.Omega.{arith}
use lib.ListN.{drop}
use Rattle.plain.specs.Count.{count_if}
use Rattle.str_indices.specs.Out.{is_out}
use Rattle.plain.proofs.Count.{count_turn}
use Rattle.str_indices.proofs.parts.part_outside.Goals as goal

pub loop-i-preserved : goal.loop-i-preserved
loop-i-preserved c =
    let text = c.args.text.now in
    (omega arith, omega arith, omega arith, omega (arith, count_turn text c.loop-i.i (omega arith) (is_out c.args.lo c.args.hi)))

pub returns : goal.returns
returns c =
    let text = c.args.text.now in
    let i : c.loop-i.i ≡ c.args.e = omega arith in
    (omega (arith, ap (λ (k : ℕ). count_if (is_out c.args.lo c.args.hi) (drop k text)) i), omega arith)
