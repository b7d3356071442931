-- `total_with` meets its contract: each turn adds the counts of one child, and at the end those of one are exchanged.
use mathlib.Core.Path.{ap, ◌∙◌}
use mathlib.Core.List.{[], ◌∷◌}
use Prim.Native.Nat.{◌<◌}
use native.Mathlib.Omega.{arith}
use Rattle.plain.specs.Outcome.{ruled}
use Rattle.text_info.specs.declared.TextSum.{TextSum}
use Rattle.pool.specs.Slot.{len_of}
use Rattle.nodes.specs.Node.{too_wide, narrowed}
use Rattle.list_step.proofs.One.{counts-read, counts-there, added-one, added-all}
use Rattle.list_step.proofs.total_with.Goals as goal

pub returns-in_err-counts : goal.returns-in_err-counts
returns-in_err-counts c =
    let a = c.args in
    let k = c.info_of in
    counts-there a.m.now a.slot c.requires.0 c.loop-i.i _ (omega (arith, c.requires.1, c.loop-i-test.true)) k.result k.ensures c.in_err-counts.was

pub loop-i-preserved : goal.loop-i-preserved
loop-i-preserved c =
    let a = c.args in
    let l = c.loop-i in
    let k = c.info_of in
    let h : l.i < len_of a.m.now a.slot = omega (arith, c.requires.1, c.loop-i-test.true) in
    let z = counts-read a.m.now a.slot c.requires.0 l.i _ h k.result k.ensures c.in_ok-counts.was in
    added-one a.m.now a.slot c.requires.0 l.i l.all _ c.add-all.result h l.invariant z (omega arith) (omega arith) (omega arith) (omega arith) c.add-all.ensures

pub returns-in_err-own : goal.returns-in_err-own
returns-in_err-own c =
    let a = c.args in
    let k = c.info_of-2 in
    counts-there a.m.now a.slot c.requires.0 a.idx _ (omega (arith, c.requires.1, c.requires.2)) k.result k.ensures c.in_err-own.was

pub returns : goal.returns
returns c =
    let a = c.args in
    let l = c.loop-i in
    let k = c.info_of-2 in
    let h : a.idx < len_of a.m.now a.slot = omega (arith, c.requires.1, c.requires.2) in
    let z = counts-read a.m.now a.slot c.requires.0 a.idx _ h k.result k.ensures c.in_ok-own.was in
    let all =
    added-all a.m.now a.slot a.idx a.new c.requires.0 h l.i l.all (omega (arith, c.requires.1, l.auto.i-end, c.loop-i-test.false)) l.invariant _ c.sub.result c.add.result z (omega arith) (omega arith) (omega arith) (omega arith) c.sub.ensures c.add.ensures in
    c.narrow.ensures ∙ ap (λ (x : TextSum). ruled ((2, too_wide x) ∷ []) (narrowed x)) all
