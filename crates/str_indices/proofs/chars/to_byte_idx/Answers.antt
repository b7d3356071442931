-- `chars::to_byte_idx` meets its contract. The loop's invariant: the bytes passed, and the place of what is left among those still to come,
-- make the place looked for.
use Prim.Native.Nat.{◌+◌}
use native.Mathlib.Omega.{arith}
use Rattle.str_indices.proofs.Laws.{place-leap, place-beyond}
use Rattle.str_indices.proofs.chars.to_byte_idx.Goals as goal

pub returns-then-end-i : goal.returns-then-end-i
returns-then-end-i c =
    omega (arith, place-beyond c.args.text.now c.loop-left.i c.loop-left.left (omega arith) (omega arith))

pub loop-left-preserved : goal.loop-left-preserved
loop-left-preserved c =
    let text = c.args.text.now in
    let e = c.loop-left.i + c.min.result in
    (omega arith, omega (arith, place-leap text c.loop-left.i e c.loop-left.left c.from-left.result (omega arith) (omega arith) (omega arith) (omega arith)))
