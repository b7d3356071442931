use Rattle.framing.proofs.Field.{bytes-are, whole_is, short-is}
use Rattle.framing.specs.Field.{field_bytes}
use native.Mathlib.Omega.{arith}
use Prim.Native.Nat.{ℕ, ◌+◌}
use mathlib.Core.Bool.{Bool, cond}
use mathlib.Core.Path.{◌≡◌, sym, ap, ◌∙◌}
use Rattle.framing.proofs.field_bytes.Goals as goal

pub returns-then-s-n : goal.returns-then-s-n
returns-then-s-n c =
    let s = c.args.s.now in
    let t = c.two_at in
    let e : field_bytes s ≡ 3 + t.result = bytes-are s ∙ ap (λ (n : ℕ). 3 + n) (sym t.ensures.0) in
    (sym (ap (λ (w : Bool). cond w (field_bytes s) 0) (short-is s (omega (arith, c.if-s-n.true)))), omega (arith, t.ensures.1))

pub returns : goal.returns
returns c =
    let s = c.args.s.now in
    let t = c.two_at in
    let e : field_bytes s ≡ 3 + t.result = bytes-are s ∙ ap (λ (n : ℕ). 3 + n) (sym t.ensures.0) in
    (sym e ∙ sym (ap (λ (w : Bool). cond w (field_bytes s) 0) (whole_is s (omega (arith, c.if-s-n.false)))), omega (arith, t.ensures.1))
