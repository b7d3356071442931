-- `big::write_u32` meets its contract: the upper half, and the lower half behind it.
use mathlib.Core.Path.{ap, ◌∙◌}
use Prim.Native.Nat.{ℕ, ◌+◌, ◌/◌, ◌%◌}
use native.Mathlib.Omega.{arith}
use Rattle.octets.specs.Over.{overlaid}
use Rattle.octets.specs.Big.{bytes_of2, bytes_of4}
use Rattle.octets.proofs.Over.{over-join}
use Rattle.octets.proofs.Numbers.{two-length}
use Rattle.pool.proofs.big.write_u32.Goals as goal

pub returns : goal.returns
unfolding bytes_of4
returns c =
    let a = c.args in
    c.write_u16-2.ensures
    ∙ ap (overlaid (a.at + 2) (bytes_of2 (a.v % 65536))) c.write_u16.ensures
    ∙ over-join a.at (a.at + 2) (bytes_of2 (a.v / 65536)) (bytes_of2 (a.v % 65536)) a.m.now (ap (λ (n : ℕ). a.at + n) (two-length (a.v / 65536))) (omega (arith, c.requires))
