-- `shift::shift_left` meets its contract.
use mathlib.Core.Path.{◌≡◌, refl, sym, ap, ◌∙◌}
use Prim.Native.Nat.{◌+◌, ◌-◌}
use native.Mathlib.Omega.{arith}
use lib.ListN.{take, drop, length-drop}
use lib.Seq.{length-take-le}
use Rattle.answer.proofs.Opened.{never-refused}
use Rattle.leaf_bytes.specs.Leaf.{laid}
use Rattle.leaf_bytes.proofs.Opened.{value-is, both-are}
use Rattle.leaf_bytes.proofs.Calls.{replace-laid, replace-told}
use Rattle.leaf_bytes.proofs.Laid.{below_right}
use Rattle.leaf_seams.proofs.shift.shift_left.Goals as goal

pub returns-in_err-rest : goal.returns-in_err-rest
returns-in_err-rest c =
    let a = c.args in
    let y = take (a.len - a.split) (drop a.split a.left.now) in
    never-refused _ _ _ (replace-told a.right.now a.right_len 0 0 y (omega arith) (omega arith) (omega arith) (omega arith) c.replace.ensures) c.in_err-rest.was

pub returns : goal.returns
returns c =
    let a = c.args in
    let l = a.left.now in
    let r = a.right.now in
    let y = take (a.len - a.split) (drop a.split l) in
    let told = replace-told r a.right_len 0 0 y (omega arith) (omega arith) (omega arith) (omega arith) c.replace.ensures in
    let n : c.in_ok-rest.rest ≡ a.len + a.right_len - a.split = omega (arith, value-is _ _ told _ c.in_ok-rest.was, length-take-le (a.len - a.split) (drop a.split l) (omega (arith, length-drop a.split l))) in (
      both-are _ _ _ _ refl n,
      replace-laid r a.right_len 0 0 y (omega arith) (omega arith) (omega arith) (omega arith) c.replace.ensures ∙ ap (laid r) (sym (below_right l r a.len a.right_len a.split (omega arith) (omega arith))),
    )
