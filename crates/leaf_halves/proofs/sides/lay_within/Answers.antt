-- `sides::lay_within` meets its contract.
use mathlib.Core.Path.{◌≡◌, sym, ap, ◌∙◌}
use mathlib.Core.List.{List, [], ◌++◌, append-nil}
use Prim.Native.Nat.{ℕ, ◌+◌, ◌-◌}
use native.Mathlib.Omega.{arith}
use lib.ListN.{length, take, drop, length-drop}
use lib.Seq.{length-take-le, take_all}
use Rattle.answer.proofs.Opened.{never-refused}
use Rattle.leaf_bytes.specs.Leaf.{laid}
use Rattle.leaf_bytes.proofs.Opened.{value-is, both-are}
use Rattle.leaf_bytes.proofs.Laid.{laid-behind, within-left, within-right}
use Rattle.leaf_halves.proofs.sides.lay_within.Goals as goal

pub slice_bounds-put-end : goal.slice_bounds-put-end
slice_bounds-put-end c =
    sym (length-take-le _ c.args.string.now (omega arith))

pub put-requires : goal.put-requires
put-requires c =
    omega (arith, length-take-le (c.args.split - c.args.a) c.args.string.now (omega arith))

pub returns-in_err-rest : goal.returns-in_err-rest
returns-in_err-rest c =
    never-refused _ _ _ c.lay.ensures.0 c.in_err-rest.was

pub returns-in_err-kept : goal.returns-in_err-kept
returns-in_err-kept c =
    never-refused _ _ _ c.put.ensures.0 c.in_err-kept.was

pub returns : goal.returns
returns c =
    let a = c.args in
    let r = a.region.now in
    let s = a.string.now in
    let k = a.split - a.a in
    let rest = take (a.len - a.a) (drop a.a r) in
    let n : c.in_ok-rest.rest ≡ a.len + length s - a.split = omega (arith, value-is _ _ c.lay.ensures.0 _ c.in_ok-rest.was, length-take-le (length s - k) (drop k s) (omega (arith, length-drop k s)), length-take-le (a.len - a.a) (drop a.a r) (omega (arith, length-drop a.a r))) in
    let kept : c.in_ok-kept.kept ≡ a.split = omega (arith, value-is _ _ c.put.ensures.0 _ c.in_ok-kept.was, length-take-le k s (omega arith)) in (
      both-are _ _ _ _ kept n,
      c.put.ensures.1 ∙ laid-behind r a.a (take k s) (omega arith)
          ∙ ap (laid r) (sym (within-left r s a.len a.a a.split (omega arith) (omega arith) (omega arith) (omega arith))),
      c.lay.ensures.1
          ∙ ap (λ (q : List ℕ). laid a.right.now (q ++ (rest ++ []))) (take_all (length s - k) (drop k s) (omega (arith, length-drop k s)))
          ∙ ap (λ (q : List ℕ). laid a.right.now (drop k s ++ q)) (append-nil rest)
          ∙ ap (laid a.right.now) (sym (within-right r s a.len a.a a.split (omega arith) (omega arith) (omega arith) (omega arith))),
    )
