-- `put_head` meets its contract: a kind, a zero and two numbers, one behind the other.
use Prim.Native.Nat.{◌+◌}
use native.Mathlib.Omega.{arith}
use lib.ListN.{set, length-set}
use Rattle.pool.proofs.Slots.{head-laid}
use Rattle.pool.proofs.put_head.Goals as goal

pub bounds-m-at-2 : goal.bounds-m-at-2
bounds-m-at-2 c = simp length-set (omega arith)

pub write_u16-requires : goal.write_u16-requires
write_u16-requires c = simp length-set (omega arith)

pub write_u32-requires : goal.write_u32-requires
write_u32-requires c = omega (arith, length-set (set c.args.m.now c.args.at c.args.kind) (c.args.at + 1) 0, length-set c.args.m.now c.args.at c.args.kind)

pub shape_of-m : goal.shape_of-m
shape_of-m c = omega (arith, length-set (set c.args.m.now c.args.at c.args.kind) (c.args.at + 1) 0, length-set c.args.m.now c.args.at c.args.kind)

pub returns : goal.returns
returns c = let a = c.args in head-laid a.m.now _ _ a.at a.kind a.len a.next (omega (arith, c.requires)) c.write_u16.ensures c.write_u32.ensures
