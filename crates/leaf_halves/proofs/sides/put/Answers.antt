-- `sides::put` meets its contract.
use mathlib.Core.Path.{◌≡◌, ap, ◌∙◌}
use Prim.Native.Nat.{ℕ, ◌+◌, ◌-◌}
use native.Mathlib.Omega.{arith}
use lib.ListN.{length}
use Rattle.plain.specs.Outcome.{Outcome.value}
use Rattle.leaf_bytes.proofs.Calls.{replace-laid, replace-told}
use Rattle.leaf_bytes.proofs.Laid.{laid-put}
use Rattle.leaf_halves.proofs.sides.put.Goals as goal

pub returns : goal.returns
returns c =
    let a = c.args in
    let f = c.replace.ensures in
    let z : a.at - (a.at - a.at) + length a.piece.now ≡ a.at + length a.piece.now = omega arith in (
      replace-told a.region.now a.at a.at a.at a.piece.now (omega arith) (omega arith) (omega arith) (omega arith) f ∙ ap (λ (n : ℕ). value n) z,
      replace-laid a.region.now a.at a.at a.at a.piece.now (omega arith) (omega arith) (omega arith) (omega arith) f ∙ laid-put a.region.now a.at a.piece.now (omega arith),
    )
