-- `half::byte_at` meets its contract.
use native.Mathlib.Omega.{arith}
use Rattle.leaf_halves.proofs.Window.{put-before, put-within, put-behind}
use Rattle.leaf_halves.proofs.half.byte_at.Goals as goal

pub returns-then-i-a : goal.returns-then-i-a
returns-then-i-a c = put-before c.args.leaf.now c.args.string.now c.args.a (omega arith) c.args.i (omega arith)

pub returns-then-i-a-2 : goal.returns-then-i-a-2
returns-then-i-a-2 c = put-within c.args.leaf.now c.args.string.now c.args.a (omega arith) c.args.i (omega arith) (omega arith)

pub returns : goal.returns
returns c = put-behind c.args.leaf.now c.args.string.now c.args.a (omega arith) c.args.i (omega arith)
