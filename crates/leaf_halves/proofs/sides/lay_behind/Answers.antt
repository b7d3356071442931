-- `sides::lay_behind` meets its contract.
use mathlib.Core.Path.{◌≡◌, sym, ap, ◌∙◌}
use mathlib.Core.List.{append-nil}
use Prim.Native.Nat.{◌+◌, ◌-◌}
use native.Mathlib.Omega.{arith}
use lib.ListN.{length, take, drop, length-drop}
use lib.Seq.{length-take-le}
use Rattle.answer.proofs.Opened.{never-refused}
use Rattle.leaf_bytes.specs.Leaf.{laid}
use Rattle.leaf_bytes.proofs.Opened.{value-is, both-are}
use Rattle.leaf_bytes.proofs.Calls.{replace-laid, replace-told}
use Rattle.leaf_bytes.proofs.Laid.{behind-left, behind-right}
use Rattle.leaf_halves.proofs.sides.lay_behind.Goals as goal

pub returns-in_err-rest : goal.returns-in_err-rest
returns-in_err-rest c =
    never-refused _ _ _ c.lay.ensures.0 c.in_err-rest.was

pub returns-in_err-kept : goal.returns-in_err-kept
returns-in_err-kept c =
    let a = c.args in
    let s = a.string.now in
    never-refused _ _ _ (replace-told a.region.now (a.split - length s) a.a a.a s (omega arith) (omega arith) (omega arith) (omega arith) c.replace.ensures) c.in_err-kept.was

pub returns : goal.returns
returns c =
    let a = c.args in
    let r = a.region.now in
    let s = a.string.now in
    let k = a.split - length s in
    let told = replace-told r k a.a a.a s (omega arith) (omega arith) (omega arith) (omega arith) c.replace.ensures in
    let n : c.in_ok-rest.rest ≡ a.len + length s - a.split = omega (arith, value-is _ _ c.lay.ensures.0 _ c.in_ok-rest.was, length-take-le (a.len - k) (drop k r) (omega (arith, length-drop k r))) in
    let kept : c.in_ok-kept.kept ≡ a.split = omega (arith, value-is _ _ told _ c.in_ok-kept.was) in (
      both-are _ _ _ _ kept n,
      replace-laid r k a.a a.a s (omega arith) (omega arith) (omega arith) (omega arith) c.replace.ensures ∙ ap (laid r) (sym (behind-left r s a.len a.a a.split (omega arith) (omega arith) (omega arith) (omega arith))),
      c.lay.ensures.1
          ∙ ap (laid a.right.now) (append-nil (take (a.len - k) (drop k r)) ∙ sym (behind-right r s a.len a.a a.split (omega arith) (omega arith) (omega arith) (omega arith))),
    )
