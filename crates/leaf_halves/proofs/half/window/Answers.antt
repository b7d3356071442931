-- `half::window` meets its contract: what has been read is the text from `start` on.
use mathlib.Core.Path.{◌≡◌, refl, sym, ap, ◌∙◌}
use mathlib.Core.List.{[], ◌∷◌}
use Prim.Native.Nat.{ℕ, ◌-◌}
use native.Mathlib.Omega.{arith}
use lib.ListN.{take, drop, length-set}
use Rattle.plain.specs.Edit.{put_in}
use Rattle.leaf_halves.proofs.Window.{put-length, window-turn}
use Rattle.leaf_halves.proofs.half.window.Goals as goal

pub loop-i-init : goal.loop-i-init
loop-i-init c =
    let a = c.args in
    let z : a.start - a.start ≡ 0 = omega arith in
    (omega arith, omega arith, refl, ap (λ (n : ℕ). take n (0 ∷ 0 ∷ 0 ∷ 0 ∷ 0 ∷ 0 ∷ 0 ∷ 0 ∷ [])) z ∙ sym (ap (λ (n : ℕ). take n (drop a.start (put_in a.a a.string.now a.leaf.now))) z))

pub loop-i-preserved : goal.loop-i-preserved
loop-i-preserved c =
    let a = c.args in (
      omega arith,
      omega arith,
      simp length-set c.loop-i.invariant.2,
      window-turn (put_in a.a a.string.now a.leaf.now) c.loop-i.buf a.start c.loop-i.i _ (omega arith)
          (omega (arith, put-length a.leaf.now a.string.now a.a (omega arith))) (omega arith) c.loop-i.invariant.3 c.byte_at.ensures,
    )

pub returns : goal.returns
returns c =
    let z : c.loop-i.i ≡ c.args.end = omega arith in (
      c.loop-i.invariant.2,
      ap (λ (n : ℕ). take (n - c.args.start) c.loop-i.buf) (sym z)
          ∙ c.loop-i.invariant.3
          ∙ ap (λ (n : ℕ). take (n - c.args.start) (drop c.args.start (put_in c.args.a c.args.string.now c.args.leaf.now))) z,
    )
