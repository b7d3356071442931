-- `sides::lay_split` meets its contract: the split before the piece, inside it or behind it.
use mathlib.Core.Path.{sym, ap, ◌∙◌}
use native.Mathlib.Omega.{arith}
use Rattle.leaf_bytes.specs.Leaf.{laid}
use Rattle.leaf_bytes.proofs.Laid.{laid-own, before-left}
use Rattle.leaf_halves.proofs.sides.lay_split.Goals as goal

pub returns-then-split-a : goal.returns-then-split-a
returns-then-split-a c =
    let a = c.args in
    let r = a.region.now in (
      c.lay_before.ensures.0,
      sym (ap (laid r) (before-left r a.string.now a.len a.a a.split (omega arith) (omega arith) (omega arith)) ∙ laid-own r a.split (omega arith)),
      c.lay_before.ensures.1,
    )
