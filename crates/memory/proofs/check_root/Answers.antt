-- `check_root` meets its contract.
use mathlib.Core.Path.{refl}
use Rattle.memory.proofs.Tests.{root-met}
use Rattle.memory.proofs.check_root.Goals as goal

pub returns : goal.returns
returns c =
    let k = c.check_node in
    let l = c.least_root in
    let h = c.height-height in
    let r = c.root-root in
    let a = c.args in
    root-met a.m.now a.seen.now k.new.seen k.result r.result h.result l.result _ r.ensures h.ensures l.ensures refl k.ensures
