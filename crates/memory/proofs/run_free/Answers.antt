-- `run_free` meets its contract: where none was live yet, the marks passed are free.
use mathlib.Core.Path.{◌≡◌, sym, ◌∙◌}
use Prim.Native.Nat.{◌≤◌}
use native.Mathlib.Omega.{arith}
use lib.Dec.{eqb}
use borrow.Author.Count.{below_more}
use borrow.Author.Tests.{eqb-true}
use Rattle.plain.proofs.Logic.{and_left, and_right}
use Rattle.note_head.specs.Head.{live_at}
use Rattle.memory.proofs.run_free.Goals as goal

pub loop-j-init : goal.loop-j-init
loop-j-init c = λ t i h l. absurd (omega arith)

pub loop-j-preserved : goal.loop-j-preserved
loop-j-preserved c =
    let a = c.args in
    let live = c.mark_live.result in
    let free = c.loop-j.free in
    λ t i h g. below_more (λ i. a.k ≤ i → live_at a.m.now i ≡ 0) c.loop-j.j (λ i g h. c.loop-j.invariant (and_left free (eqb live 0) t) i h g) (λ h. sym c.mark_live.ensures ∙ eqb-true live 0 (and_right free (eqb live 0) t)) i g h

pub returns : goal.returns
returns c = λ t i h g. c.loop-j.invariant t i h (omega arith)
