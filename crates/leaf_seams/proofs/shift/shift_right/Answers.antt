-- `shift::shift_right` meets its contract.
use mathlib.Core.Path.{◌≡◌, sym, ap, ◌∙◌}
use mathlib.Core.List.{[]}
use Prim.Native.Nat.{◌+◌, ◌-◌}
use native.Mathlib.Omega.{arith}
use lib.ListN.{take}
use lib.Seq.{length-take-le}
use Rattle.answer.proofs.Opened.{never-refused}
use Rattle.leaf_bytes.specs.Leaf.{laid}
use Rattle.leaf_bytes.proofs.Opened.{value-is, both-are}
use Rattle.leaf_bytes.proofs.Calls.{replace-laid, replace-told}
use Rattle.leaf_bytes.proofs.Laid.{laid-put, laid-behind, above-left, above-right}
use Rattle.leaf_seams.proofs.shift.shift_right.Goals as goal

pub slice_bounds-replace-end-2 : goal.slice_bounds-replace-end-2
slice_bounds-replace-end-2 c =
    sym (length-take-le _ c.args.right.now (omega arith))

pub replace-requires : goal.replace-requires
replace-requires c =
    omega (arith, length-take-le (c.args.split - c.args.len) c.args.right.now (omega arith))

pub returns-in_err-more : goal.returns-in_err-more
returns-in_err-more c =
    let a = c.args in
    let y = take (a.split - a.len) a.right.now in
    let long = length-take-le (a.split - a.len) a.right.now (omega arith) in
    never-refused _ _ _ (replace-told a.left.now a.len a.len a.len y (omega arith) (omega arith) (omega arith) (omega arith) c.replace.ensures) c.in_err-more.was

pub returns-in_err-rest : goal.returns-in_err-rest
returns-in_err-rest c =
    let a = c.args in
    never-refused _ _ _ (replace-told a.right.now a.right_len 0 (a.split - a.len) [] (omega arith) (omega arith) (omega arith) (omega arith) c.replace-2.ensures) c.in_err-rest.was

pub returns : goal.returns
returns c =
    let a = c.args in
    let l = a.left.now in
    let r = a.right.now in
    let y = take (a.split - a.len) r in
    let long = length-take-le (a.split - a.len) r (omega arith) in
    let left = replace-told l a.len a.len a.len y (omega arith) (omega arith) (omega arith) (omega arith) c.replace.ensures in
    let right = replace-told r a.right_len 0 (a.split - a.len) [] (omega arith) (omega arith) (omega arith) (omega arith) c.replace-2.ensures in
    let i : c.in_ok-more.more ≡ a.split = omega (arith, value-is _ _ left _ c.in_ok-more.was) in
    let j : c.in_ok-rest.rest ≡ a.len + a.right_len - a.split = omega (arith, value-is _ _ right _ c.in_ok-rest.was) in (
      both-are _ _ _ _ i j,
      replace-laid l a.len a.len a.len y (omega arith) (omega arith) (omega arith) (omega arith) c.replace.ensures
          ∙ laid-put l a.len y (omega arith) ∙ laid-behind l a.len y (omega arith)
          ∙ ap (laid l) (sym (above-left l r a.len a.right_len a.split (omega arith) (omega arith) (omega arith))),
      replace-laid r a.right_len 0 (a.split - a.len) [] (omega arith) (omega arith) (omega arith) (omega arith) c.replace-2.ensures
          ∙ ap (laid r) (sym (above-right l r a.len a.right_len a.split (omega arith) (omega arith))),
    )
