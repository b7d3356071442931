-- `sides::lay_before` meets its contract.
use mathlib.Core.Path.{◌≡◌, refl, sym, ap, ◌∙◌}
use Prim.Native.Nat.{◌+◌, ◌-◌}
use native.Mathlib.Omega.{arith}
use lib.ListN.{length, drop, length-drop}
use lib.Seq.{length-take-le}
use Rattle.answer.proofs.Opened.{never-refused}
use Rattle.leaf_bytes.specs.Leaf.{laid}
use Rattle.leaf_bytes.proofs.Opened.{value-is, both-are}
use Rattle.leaf_bytes.proofs.Laid.{before-right}
use Rattle.leaf_halves.proofs.sides.lay_before.Goals as goal

pub returns-in_err-rest : goal.returns-in_err-rest
returns-in_err-rest c =
    never-refused _ _ _ c.lay.ensures.0 c.in_err-rest.was

pub returns : goal.returns
returns c =
    let a = c.args in
    let r = a.region.now in
    let s = a.string.now in
    let n : c.in_ok-rest.rest ≡ a.len + length s - a.split = omega (arith, value-is _ _ c.lay.ensures.0 _ c.in_ok-rest.was, length-take-le (a.a - a.split) (drop a.split r) (omega (arith, length-drop a.split r)), length-take-le (a.len - a.a) (drop a.a r) (omega (arith, length-drop a.a r))) in (
      both-are _ _ _ _ refl n,
      c.lay.ensures.1 ∙ ap (laid a.right.now) (sym (before-right r s a.len a.a a.split (omega arith) (omega arith) (omega arith))),
    )
