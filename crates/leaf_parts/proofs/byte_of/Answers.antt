-- `byte_of` meets its contract: the bytes on the leaf's left, and those in it.
use Rattle.answer.proofs.Opened.{raised}
use native.Mathlib.Omega.{arith}
use Rattle.leaf_parts.proofs.Found.{byte-none, byte-found, left-small}
use Rattle.leaf_parts.proofs.byte_of.Goals as goal

pub overflow_add-b : goal.overflow_add-b
overflow_add-b c =
    omega (arith, c.byte_in.ensures.1, c.text_at-text.ensures.1, left-small c.spot_of.result _ _ c.spot_of.ensures.1 c.in_ok-leaf.was)

pub returns-in_err-leaf : goal.returns-in_err-leaf
returns-in_err-leaf c = rw (raised c.from_residual.ensures.1) (
    let a = c.args in
    byte-none a.m.now a.at c.spot_of.result _ c.spot_of.ensures.0 c.in_err-leaf.was)

pub returns : goal.returns
returns c =
    let a = c.args in
    byte-found a.m.now a.at c.spot_of.result _ _ c.text_at-text.result.now _ c.spot_of.ensures.0 c.in_ok-leaf.was c.text_at-text.ensures.0 c.above.ensures _ c.byte_in.ensures.0
