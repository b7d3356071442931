-- `replay::count` meets its contract. The count fits, since it is at most the sum.
use mathlib.Core.Path.{refl}
use Prim.Native.Nat.{◌+◌}
use native.Mathlib.Omega.{arith}
use lib.ListN.{get_or, length-set}
use Rattle.replay.proofs.Sum.{at_most, one_more}
use Rattle.replay.proofs.count.Goals as goal

pub overflow_add-counts : goal.overflow_add-counts
overflow_add-counts c = record { fits = omega (arith, at_most c.args.counts.now c.args.f) }

pub returns : goal.returns
returns c =
    let xs = c.args.counts.now in
    let f = c.args.f in
    record { set_at = refl; long = length-set xs f (get_or xs f 0 + 1); total = one_more xs f (omega (arith, c.requires)) }
