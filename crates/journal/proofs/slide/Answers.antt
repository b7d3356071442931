-- `slide` meets its contract, by what std says of `copy_within`.
use mathlib.Core.Path.{◌≡◌, refl, ap, ◌∙◌}
use Prim.Native.Nat.{◌+◌, ◌-◌}
use native.Mathlib.Omega.{arith}
use lib.ListN.{length, take, drop, length-drop}
use lib.Seq.{take_at, length-take-le}
use Rattle.leaf_bytes.proofs.Copies.{paste-whole}
use Rattle.journal.proofs.slide.Goals as goal

pub returns : goal.returns
returns c =
    let a = c.args in
    let b = a.buf.now in
    let n = a.to - a.from in
    let s = drop a.from b in
    let whole : length (take n s) ≡ n = length-take-le n s (omega (arith, length-drop a.from b)) in
    (refl, ap (take n) (c.copy_within.ensures.after ∙ paste-whole b 0 s n (omega (arith, length-drop a.from b))) ∙ take_at (take n s) (drop (0 + length (take n s)) b) n whole)
