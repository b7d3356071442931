-- `clear` meets its contract.
use mathlib.Core.Path.{◌≡◌, ap, ◌∙◌}
use Prim.Native.Nat.{ℕ, ◌-◌}
use native.Mathlib.Omega.{arith}
use borrow.Rule.Slice.PartMut.{put_mid}
use lib.ListN.{length, take, drop, replicate, length-drop, length-replicate}
use lib.Seq.{length-take-le}
use Rattle.octets.proofs.Over.{put-over}
use Rattle.opening.specs.Opened.{zero_bytes}
use Rattle.opening.proofs.clear.Goals as goal

pub returns : goal.returns
unfolding zero_bytes
returns c =
    let a = c.args in
    let n = a.end - a.start in
    let long : length (take n (drop a.start a.m.now)) ≡ n = length-take-le n (drop a.start a.m.now) (omega (arith, length-drop a.start a.m.now)) in
    ap (put_mid a.start n a.m.now) (c.fill.ensures.after (λ y e. e) ∙ ap (λ (k : ℕ). replicate k 0) long)
    ∙ put-over a.start a.end a.m.now (replicate n 0) c.requires.0 (length-replicate n 0)
