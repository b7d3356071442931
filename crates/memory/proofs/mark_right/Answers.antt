-- `mark_right` meets its contract.
use mathlib.Core.Path.{sym, ◌∙◌}
use Rattle.memory.proofs.Tests.{mark-free, mark-odd, mark-live}
use Rattle.memory.proofs.mark_right.Goals as goal

pub returns-then-live-eq0 : goal.returns-then-live-eq0
returns-then-live-eq0 c = let a = c.args in mark-free a.m.now a.chars a.k (sym c.mark_live-live.ensures ∙ c.if-live-eq0.true)

pub returns-then-live-ne1 : goal.returns-then-live-ne1
returns-then-live-ne1 c =
    let a = c.args in
    let e = c.mark_live-live.ensures in
    mark-odd a.m.now a.chars a.k (λ q. c.if-live-eq0.false (e ∙ q)) (λ q. c.if-live-ne1.true (e ∙ q))

pub returns : goal.returns
returns c =
    let a = c.args in
    mark-live a.m.now a.chars a.k c.mark_place.result (sym c.mark_live-live.ensures ∙ c.if-live-ne1.false) c.mark_place.ensures.0
