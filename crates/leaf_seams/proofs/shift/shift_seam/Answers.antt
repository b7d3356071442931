-- `shift::shift_seam` meets its contract: bytes of the left leaf go right, or those of the right leaf left.
use mathlib.Core.Path.{sym, ap, ◌∙◌}
use native.Mathlib.Omega.{arith}
use Rattle.leaf_bytes.specs.Leaf.{laid}
use Rattle.leaf_bytes.proofs.Laid.{laid-own, below_left}
use Rattle.leaf_seams.proofs.shift.shift_seam.Goals as goal

pub returns-then-split-len : goal.returns-then-split-len
returns-then-split-len c =
    let a = c.args in
    let l = a.left.now in (
      c.shift_left.ensures.0,
      sym (ap (laid l) (below_left l a.right.now a.len a.right_len a.split (omega arith) (omega arith)) ∙ laid-own l a.split (omega arith)),
      c.shift_left.ensures.1,
    )
