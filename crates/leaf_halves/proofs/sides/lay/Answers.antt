-- `sides::lay` meets its contract.
use mathlib.Core.Path.{◌≡◌, ap, ◌∙◌}
use mathlib.Core.List.{List, ◌++◌}
use Prim.Native.Nat.{ℕ, ◌+◌}
use native.Mathlib.Omega.{arith}
use lib.ListN.{length}
use Rattle.plain.specs.Outcome.{Outcome.value}
use Rattle.leaf_bytes.specs.Leaf.{laid}
use Rattle.octets.specs.Over.{overlaid}
use Rattle.leaf_bytes.proofs.Opened.{value-is}
use Rattle.leaf_bytes.proofs.Laid.{laid-three}
use Rattle.leaf_halves.proofs.sides.lay.Goals as goal

-- each piece is laid where the answer before it says
in-turn : (r x y z r1 r2 r3 : List ℕ) (i j : ℕ) → i ≡ 0 + length x → j ≡ i + length y
    → r1 ≡ overlaid 0 x r → r2 ≡ overlaid i y r1 → r3 ≡ overlaid j z r2 → r3 ≡ laid r (x ++ (y ++ z))
in-turn r x y z r1 r2 r3 i j e f e1 e2 e3 =
    let one : i ≡ length x = omega arith in
    let two : j ≡ length x + length y = omega arith in
    laid-three r x y z r1 r2 r3 e1 (e2 ∙ ap (λ (n : ℕ). overlaid n y r1) one) (e3 ∙ ap (λ (n : ℕ). overlaid n z r2) two)

pub returns : goal.returns
returns c =
    let a = c.args in
    let x = a.x.now in
    let y = a.y.now in
    let z = a.z.now in
    let i = value-is _ _ c.put.ensures.0 _ c.in_ok-i.was in
    let j = value-is _ _ c.put-2.ensures.0 _ c.in_ok-j.was in
    (c.put-3.ensures.0 ∙ ap (λ (n : ℕ). value n) (omega (arith, i, j)), in-turn a.region.now x y z _ _ _ _ _ i j c.put.ensures.1 c.put-2.ensures.1 c.put-3.ensures.1)
