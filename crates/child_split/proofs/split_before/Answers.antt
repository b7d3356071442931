-- `split_before` meets its contract: no call is refused.
use mathlib.Core.Path.{ap, ◌∙◌}
use mathlib.Core.List.{[]}
use Prim.Native.Nat.{◌≤◌, ◌<◌}
use native.Mathlib.Omega.{arith}
use lib.ListN.{length-map}
use Rattle.plain.specs.Outcome.{mapped}
use Rattle.answer.proofs.Opened.{never-refused}
use Rattle.node_children.specs.Kids.{list_of}
use Rattle.node_children.proofs.Lists.{kids-length, clean-length}
use Rattle.node_children.proofs.Rules.{parting-given, popped-done, inserted-done}
use Rattle.node_children.proofs.Holding.{popped-holds, popped-kid, inserted-holds}
use Rattle.node_children.proofs.Halves.{insert-extra}
use Rattle.child_split.proofs.split_before.Goals as goal

pub split_with-requires : goal.split_with-requires
split_with-requires c =
    let a = c.args in
    let p = c.pop-last in
    let w = kids-length a.list (omega arith) (c.well_formed.0.1.1.1.0.1.0.1) in
    let f = popped-holds a.list w (omega arith) p.result (omega arith) p.ensures in
    let i = inserted-holds p.result.list (clean-length _ f.clean) a.idx a.item c.insert-more.result (omega (arith, f.len)) (omega (arith, f.len)) c.insert-more.ensures in
    (omega (arith, i.len, f.len), omega (arith, i.len, f.len))

pub returns-in-Err : goal.returns-in-Err
returns-in-Err c = never-refused _ c.pop-last.result.verdict tt (c.pop-last.ensures.answered ∙ ap (mapped (λ x. tt)) (popped-done c.args.list (omega arith) (omega arith))) c.in-Err.is

pub returns-in-Err-may : goal.returns-in-Err-may
returns-in-Err-may c =
    let a = c.args in
    let p = c.pop-last in
    let w = kids-length a.list (omega arith) (c.well_formed.0.1.1.1.0.1.0.1) in
    let f = popped-holds a.list w (omega arith) p.result (omega arith) p.ensures in
    never-refused _ c.insert-more.result.verdict tt (c.insert-more.ensures.answered ∙ ap (mapped (λ x. tt)) (inserted-done p.result.list a.idx a.item (omega (arith, f.len)) (omega (arith, f.len)))) c.in-Err-may.is

pub returns-in-Ok-may : goal.returns-in-Ok-may
returns-in-Ok-may c =
    let a = c.args in
    let p = c.pop-last in
    let n = c.insert-more in
    let fits : a.list.len ≤ 16 = omega arith in
    let lt : a.idx < a.list.len = omega arith in
    let w = kids-length a.list fits (c.well_formed.0.1.1.1.0.1.0.1) in
    let f = popped-holds a.list w fits p.result (omega arith) p.ensures in
    let i = inserted-holds p.result.list (clean-length _ f.clean) a.idx a.item n.result (omega (arith, f.len)) (omega (arith, f.len)) n.ensures in
    let e = insert-extra a.list p.result.list n.result.list _ _ a.idx a.item p.result.kid w lt f i (popped-kid a.list w fits p.result (omega arith) p.ensures) in
    parting-given _ a.list (list_of []) _ _ _ (rw e at c.split_with.ensures)
