-- `behind` meets its contract: past the end nothing is left.
use mathlib.Core.Path.{refl, sym, ap}
use Prim.Native.Nat.{◌-◌}
use native.Mathlib.Omega.{arith}
use lib.ListN.{length, drop, drop_of_length-le, length-drop}
use lib.Seq.{take_all}
use Rattle.leaf_parts.proofs.behind.Goals as goal

pub returns-then-text-at : goal.returns-then-text-at
returns-then-text-at c = (sym (drop_of_length-le c.args.text.now {i = c.args.at} (omega arith)), record { from = 0; block = refl; offset = omega arith; inside = omega arith })

pub returns : goal.returns
returns c =
    let t = c.args.text.now in
    let i = c.args.at in
    let e = take_all (length t - i) (drop i t) (omega (arith, length-drop i t)) in
    (e, record { from = i; block = refl; offset = omega arith; inside = omega (arith, ap length e, length-drop i t) })
