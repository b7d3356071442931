-- `parts::count_outside` meets its contract. The loop's invariant: what has been counted, with what is still to come, is the whole count.
use native.Mathlib.Omega.{arith}
use Rattle.str_indices.specs.Out.{is_out}
use Rattle.plain.proofs.Count.{count-end}
use Rattle.str_indices.proofs.parts.count_outside.Goals as goal

pub returns : goal.returns
returns c =
    omega (arith, count-end c.args.text.now c.loop-i.i c.loop-i-test.false (is_out c.args.lo c.args.hi))
