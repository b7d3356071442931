-- `all_met` meets its contract: whether the slots passed were met.
use mathlib.Core.Path.{◌≡◌, sym, ap, ◌∙◌}
use Prim.Native.Nat.{ℕ}
use native.Mathlib.Omega.{arith}
use lib.ListN.{length}
use Rattle.memory.specs.Formed.{all_below}
use Rattle.memory.specs.Checks.{met}
use Rattle.memory.proofs.Below.{below_none}
use Rattle.memory.proofs.Marks.{met-more}
use Rattle.memory.proofs.all_met.Goals as goal

pub loop-x-init : goal.loop-x-init
loop-x-init c = sym (below_none (met c.args.seen.now))

pub loop-x-preserved : goal.loop-x-preserved
loop-x-preserved c =
    let s = c.args.seen.now in
    met-more s c.loop-x.x-index c.loop-x.all (omega arith) c.loop-x.invariant

pub returns : goal.returns
returns c =
    let s = c.args.seen.now in
    let e : c.loop-x.x-index ≡ length s = omega arith in
    c.loop-x.invariant ∙ ap (λ (k : ℕ). all_below k (met s)) e
