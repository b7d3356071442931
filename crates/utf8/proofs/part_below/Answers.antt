-- `utf8::part_below` meets its contract. The loop's invariant: what it promises, of the bytes passed.
use mathlib.Core.Path.{◌≡◌, ap, ◌∙◌}
use mathlib.Core.Bool.{Bool, ◌&&◌, and_assoc}
use Prim.Native.Nat.{ℕ, ◌+◌}
use native.Mathlib.Omega.{arith}
use lib.Dec.{ltb}
use lib.ListN.{get_or, drop}
use Rattle.utf8.specs.Bmp.{highest}
use Rattle.utf8.proofs.Highest.{below-turn}
use Rattle.utf8.proofs.part_below.Goals as goal

pub loop-i-preserved : goal.loop-i-preserved
loop-i-preserved c =
    let a = c.args in
    let s = a.text.now in
    let i = c.loop-i.i in
    let all = c.loop-i.all in (
      omega arith,
      omega arith,
      and_assoc all (ltb (get_or s i 0) a.k) (ltb (highest (drop (i + 1) s)) a.k) ∙ ap (λ (t : Bool). all && t) (below-turn s i a.k (omega arith)) ∙ c.loop-i.invariant.2,
    )

pub returns : goal.returns
returns c =
    let a = c.args in
    let same : a.e ≡ c.loop-i.i = omega arith in
    ap (λ (j : ℕ). c.loop-i.all && ltb (highest (drop j a.text.now)) a.k) same ∙ c.loop-i.invariant.2
