-- `utf16::to_byte_idx` meets its contract. The loop's invariant: the bytes passed, and the place of what is left among those still to come,
-- make the place looked for.
use mathlib.Core.Path.{ap}
use Prim.Native.Nat.{ℕ, ◌+◌, ◌-◌}
use native.Mathlib.Omega.{arith}
use lib.ListN.{drop}
use Rattle.plain.specs.Place.{start_units, place_of}
use Rattle.plain.proofs.Place.{place-stop, place-turn, place_none}
use Rattle.str_indices.proofs.utf16.to_byte_idx.Goals as goal

pub returns-then-left-k : goal.returns-then-left-k
returns-then-left-k c =
    let text = c.args.text.now in
    let i = c.loop-i.i in
    omega (arith, place-stop start_units text i c.loop-i.left (omega arith) (omega arith))

pub loop-i-preserved : goal.loop-i-preserved
loop-i-preserved c =
    let text = c.args.text.now in
    let i = c.loop-i.i in
    let k = c.begun-k.ensures.0 in
    let e = ap (λ (n : ℕ). place_of start_units (drop (i + 1) text) (c.loop-i.left - n)) k in
    (omega arith, omega (arith, e, place-turn start_units text i c.loop-i.left (omega arith) (omega arith)))

pub returns : goal.returns
returns c =
    omega (arith, place_none start_units c.args.text.now c.loop-i.i c.loop-i.left c.loop-i-test.false)
