-- `distribute_with` meets its contract: neither list is refused.
use mathlib.Core.Path.{ap, ◌∙◌}
use mathlib.Core.List.{List, ◌++◌}
use native.Mathlib.Omega.{arith}
use lib.ListN.{length-map}
use Rattle.plain.specs.Outcome.{mapped}
use Rattle.answer.proofs.Opened.{never-refused}
use Rattle.pool.specs.declared.Kid.{Kid}
use Rattle.node_children.specs.Kids.{kids}
use Rattle.node_children.proofs.Lists.{kids-length, whole, is-kids}
use Rattle.node_children.proofs.Rules.{parting-same, parting-given, distributed-left, distributed-right, distributed-done, split_done}
use Rattle.node_children.proofs.Holding.{left-holds}
use Rattle.child_split.proofs.distribute_with.Goals as goal

pub returns-then-n-gt-MAX_LEN : goal.returns-then-n-gt-MAX_LEN
returns-then-n-gt-MAX_LEN c = let a = c.args in parting-same _ a.list a.other _ _ (distributed-left a.list a.other (omega arith)) c.not_shared.ensures

pub returns-then-m-gt-MAX_LEN : goal.returns-then-m-gt-MAX_LEN
returns-then-m-gt-MAX_LEN c = let a = c.args in parting-same _ a.list a.other _ _ (distributed-right a.list a.other (omega arith)) c.not_shared-then-m-gt-MAX_LEN.ensures

pub overflow_add-r_target_len : goal.overflow_add-r_target_len
overflow_add-r_target_len c = omega arith

pub level-requires : goal.level-requires
level-requires c =
    let a = c.args in
    let wl = kids-length a.list (omega arith) (c.well_formed.0.1.1.1.0.1.0.1) in
    let wr = kids-length a.other (omega arith) (c.well_formed.1.0.1.1.1.0.1.0.1) in
    let f = left-holds a.list wl (omega arith) a.list.len c.split_off-ours.result (omega arith) c.split_off-ours.ensures in
    let g = left-holds a.other wr (omega arith) a.other.len c.split_off-theirs.result (omega arith) c.split_off-theirs.ensures in
    (f.clean, g.clean, omega (arith, f.len), omega (arith, g.len), omega (arith, f.len, g.len))

pub returns-in-Err : goal.returns-in-Err
returns-in-Err c =
    let a = c.args in
    never-refused _ c.split_off-ours.result.verdict tt (c.split_off-ours.ensures.answered ∙ ap (mapped (λ x. tt)) (split_done a.list a.list.len (omega arith) (omega arith))) c.in-Err.is

pub returns-in-Err-too : goal.returns-in-Err-too
returns-in-Err-too c =
    let a = c.args in
    never-refused _ c.split_off-theirs.result.verdict tt (c.split_off-theirs.ensures.answered ∙ ap (mapped (λ x. tt)) (split_done a.other a.other.len (omega arith) (omega arith))) c.in-Err-too.is

pub returns-in-Ok-too : goal.returns-in-Ok-too
returns-in-Ok-too c =
    let a = c.args in
    let wl = kids-length a.list (omega arith) (c.well_formed.0.1.1.1.0.1.0.1) in
    let wr = kids-length a.other (omega arith) (c.well_formed.1.0.1.1.1.0.1.0.1) in
    let f = left-holds a.list wl (omega arith) a.list.len c.split_off-ours.result (omega arith) c.split_off-ours.ensures in
    let g = left-holds a.other wr (omega arith) a.other.len c.split_off-theirs.result (omega arith) c.split_off-theirs.ensures in
    let e = ap (λ (t : List Kid). t ++ kids c.split_off-theirs.result.left) (is-kids c.split_off-ours.result.left _ f.is ∙ whole a.list)
    ∙ ap (λ (t : List Kid). kids a.list ++ t) (is-kids c.split_off-theirs.result.left _ g.is ∙ whole a.other) in
    parting-same _ a.list a.other _ _ (distributed-done a.list a.other (omega arith) (omega arith)) (parting-given _ a.list a.other _ _ _ (rw e at c.level.ensures))
