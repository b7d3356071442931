-- `to_byte_idx` meets its contract. The loop's invariant: the bytes passed, and the start of what is left of the lines
-- among those still to come, make the start looked for.
use mathlib.Core.Path.{◌≡◌, ap, ◌∙◌}
use Prim.Native.Nat.{ℕ, suc, ◌+◌, ◌-◌}
use native.Mathlib.Omega.{arith}
use lib.ListN.{length, get_or, drop}
use Rattle.plain.specs.Count.{bit, ends, line_start}
use Rattle.plain.proofs.Logic.{cut}
use Rattle.plain.proofs.Count.{line-zero, start-turn, start-end}
use Rattle.lines_crlf.proofs.to_byte_idx.Goals as goal

-- at the last byte, or behind it
pub returns-then-text-i-le1 : goal.returns-then-text-i-le1
returns-then-text-i-le1 c =
    let text = c.args.text.now in
    let i = c.loop-left.i in
    let left = c.loop-left.left in
    cut i (length text)
    (λ h. omega (arith, start-turn text i h left (omega arith), ap suc (start-end text (i + 1) (omega arith) (left - bit (ends (get_or text i 0) (drop (i + 1) text))))))
    (λ h. omega (arith, start-end text i h left))

pub loop-left-preserved : goal.loop-left-preserved
loop-left-preserved c =
    let text = c.args.text.now in
    let i = c.loop-left.i in
    let e = ap (λ (n : ℕ). line_start (drop (i + 1) text) (c.loop-left.left - n)) (c.from-left.ensures ∙ c.ended.ensures.0) in
    (omega arith, omega (arith, e, start-turn text i (omega arith) c.loop-left.left (omega arith)))

pub returns : goal.returns
returns c =
    let text = c.args.text.now in
    let i = c.loop-left.i in
    let z : c.loop-left.left ≡ 0 = omega arith in
    omega (arith, ap (line_start (drop i text)) z, line-zero (drop i text))
