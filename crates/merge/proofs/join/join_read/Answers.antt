-- `join_read` meets its contract: all in one list, or shared between two; neither call on the lists is refused.
use mathlib.Core.Path.{ap, ◌∙◌}
use mathlib.Core.List.{◌++◌}
use native.Mathlib.Omega.{arith}
use Rattle.plain.specs.Outcome.{mapped}
use Rattle.answer.proofs.Opened.{never-refused}
use Rattle.nodes.specs.Node.{children_of}
use Rattle.merge.proofs.JoinedLists.{clean, list_inside, all-length, whole-list, whole-small, shares, left-share, right-share, shares-small, kids-merged, kids-shared}
use Rattle.merge.proofs.join.join_read.Goals as goal

pub append-all-requires : goal.append-all-requires
append-all-requires c = (omega arith, clean c.args.left _ c.requires.2)

pub put_one-requires : goal.put_one-requires
put_one-requires c =
    let a = c.args in
    let p = c.requires in
    (list_inside a.m.now a.a p.0, whole-small (children_of a.m.now a.a) (children_of a.m.now a.b) a.left a.right p.2 p.3 c.append-all.result.list c.append-all.ensures.list (omega arith))

pub put_two-requires : goal.put_two-requires
put_two-requires c =
    let a = c.args in
    let p = c.requires in
    let s = shares-small (children_of a.m.now a.a) (children_of a.m.now a.b) a.left a.right p.2 p.3 p.4 p.5 c.distribute_with-two.result c.distribute_with-two.ensures in
    (list_inside a.m.now a.a p.0, list_inside a.m.now a.b p.1, s.0, s.1)

pub returns-then-left-right-le-MAX_CHILDREN : goal.returns-then-left-right-le-MAX_CHILDREN
returns-then-left-right-le-MAX_CHILDREN c =
    let a = c.args in
    let p = c.requires in
    let ls = children_of a.m.now a.a in
    let rs = children_of a.m.now a.b in
    kids-merged a.m.now a.a a.b (ls ++ rs) _ _ c.append-all.result.list (whole-list ls rs a.left a.right p.2 p.3 c.append-all.result.list c.append-all.ensures.list)
    (omega (arith, all-length ls rs a.left a.right p.2 p.3)) c.put_one.ensures

pub returns-in_err-two : goal.returns-in_err-two
returns-in_err-two c =
    let a = c.args in
    let p = c.requires in
    never-refused _ c.distribute_with-two.result.verdict tt
    (c.distribute_with-two.ensures.answered ∙ ap (mapped (λ x. tt)) (shares (children_of a.m.now a.a) (children_of a.m.now a.b) a.left a.right p.2 p.3 p.4 p.5 c.distribute_with-two.result c.distribute_with-two.ensures))
    c.in_err-two.was

pub returns : goal.returns
returns c =
    let a = c.args in
    let p = c.requires in
    let ls = children_of a.m.now a.a in
    let rs = children_of a.m.now a.b in
    let d = c.distribute_with-two in
    let n = all-length ls rs a.left a.right p.2 p.3 in
    kids-shared a.m.now a.a a.b (ls ++ rs) _ _ d.result.left d.result.right
    (left-share ls rs a.left a.right p.2 p.3 p.4 p.5 d.result d.ensures)
    (right-share ls rs a.left a.right p.2 p.3 p.4 p.5 d.result d.ensures)
    (omega arith) (omega (arith, p.4, p.5)) c.put_two.ensures
