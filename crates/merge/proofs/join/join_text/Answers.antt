-- `join_text` meets its contract.
use mathlib.Core.Path.{ap}
use native.Mathlib.Omega.{arith}
use lib.ListN.{length}
use Rattle.merge.proofs.Joins.{two-lengths, text-merged, text-parted}
use Rattle.merge.proofs.join.join_text.Goals as goal

pub overflow_add-n : goal.overflow_add-n
overflow_add-n c = let p = c.requires in omega (arith, two-lengths c.args.m.now c.args.a c.args.b p.0, p.1, ap length p.2)

pub returns-then-n-text-le-MAX_BYTES : goal.returns-then-n-text-le-MAX_BYTES
returns-then-n-text-le-MAX_BYTES c = text-merged c.args.m.now c.args.a c.args.b c.args.n c.args.text.now c.requires.0 c.requires.1 c.requires.2 c.edit_leaf.result _ _ (omega arith) c.merged_if.ensures c.edit_leaf.ensures

pub returns : goal.returns
returns c = text-parted c.args.m.now c.args.a c.args.b c.args.n c.args.text.now c.requires.0 c.requires.1 c.requires.2 c.halve_leaf.result _ _ (omega arith) c.parted_if.ensures c.halve_leaf.ensures
