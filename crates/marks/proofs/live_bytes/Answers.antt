-- `live_bytes` meets its contract: each turn adds one byte.
use Rattle.std.proofs.Common.{◌≡◌, ℕ, ◌+◌, sym, ap, ◌∙◌, arith}
use Rattle.marks.specs.MarkBytes.{live_bytes}
use Rattle.marks.proofs.Runs.{bytes-none, bytes-more}
use Rattle.marks.proofs.live_bytes.Goals as goal

pub loop-j-init : goal.loop-j-init
loop-j-init c = (omega arith, sym (bytes-none c.args.m.now c.args.k))

pub loop-j-preserved : goal.loop-j-preserved
loop-j-preserved c =
    let a = c.args in
    let l = c.loop-j in
    let b = c.live_byte-all in
    (omega (arith, b.ensures.1), ap (λ (x : ℕ). x + b.result) l.invariant.1 ∙ ap (λ (x : ℕ). live_bytes a.m.now a.k l.j + x) b.ensures.0 ∙ bytes-more a.m.now a.k l.j)

pub returns : goal.returns
returns c =
    let a = c.args in
    let l = c.loop-j in
    let z : l.j ≡ 8 = omega arith in
    l.invariant.1 ∙ ap (live_bytes a.m.now a.k) z
