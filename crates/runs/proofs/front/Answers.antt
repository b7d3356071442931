-- `front` meets its contract: what `byte_in` ensures.
use mathlib.Core.Path.{refl, sym, ap}
use Prim.Native.Nat.{ℕ}
use native.Mathlib.Omega.{arith}
use lib.Seq.{length-take-le}
use lib.ListN.{take, length-take}
use Rattle.runs.proofs.front.Goals as goal

pub slice_bounds-result-end : goal.slice_bounds-result-end
slice_bounds-result-end c = sym (length-take-le _ c.args.text.now c.byte_in-k.ensures.1)

pub returns : goal.returns
returns c = (
  ap (λ (k : ℕ). take k c.args.text.now) c.byte_in-k.ensures.0,
  record { from = 0; block = refl; offset = omega arith; inside = simp length-take (omega arith) },
)
