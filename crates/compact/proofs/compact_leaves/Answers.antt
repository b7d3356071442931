-- `compact_leaves` meets its contract, on each of its paths.
use Rattle.std.specs.Prelude.{Ok}
use mathlib.Core.Path.{ap, ◌∙◌}
use Rattle.answer.proofs.Opened.{passed}
use native.Mathlib.Omega.{arith}
use Rattle.nodes.proofs.Heads.{list-no-leaf, head-leaf, head-list, head-free, head-none}
use Rattle.compact.proofs.Called.{call-refused, load-never, call-short, some-node, call-lists, may-compact, call-leaves}
use Rattle.compact.proofs.compact_leaves.Goals as goal

pub returns-in_err-check_all : goal.returns-in_err-check_all
returns-in_err-check_all c = rw (passed c.in_err-check_all.was c.from_residual.ensures.1) (
    let a = c.args in
    call-refused a.m.now a.slot c.check_all.result c.check_all.ensures _ c.in_err-check_all.was)

pub returns-in_err-found : goal.returns-in_err-found
returns-in_err-found c =
    let a = c.args in
    load-never a.m.now a.slot c.check_all.result c.check_all.ensures c.in_ok-check_all.was c.load-found.result c.load-found.ensures _ c.in_err-found.was

pub returns-then-list-lt2 : goal.returns-then-list-lt2
returns-then-list-lt2 c =
    let a = c.args in
    call-short a.m.now a.slot c.check_all.result c.check_all.ensures c.in_ok-check_all.was c.load-found.result c.load-found.ensures (omega arith)

pub compact_in-requires : goal.compact_in-requires
compact_in-requires c =
    let a = c.args in
    may-compact a.m.now a.slot c.check_all.result c.check_all.ensures c.in_ok-check_all.was c.load-found.result c.load-found.ensures (omega arith) c.index_of.result c.index_of.ensures (head-leaf a.m.now _ c.head_of.result c.head_of.ensures _ (c.in_ok-head_of.was ∙ ap Ok c.in-Leaf.is)).0

pub returns-in-Leaf : goal.returns-in-Leaf
returns-in-Leaf c =
    let a = c.args in
    call-leaves a.m.now a.slot c.check_all.result c.check_all.ensures c.in_ok-check_all.was c.load-found.result c.load-found.ensures (omega arith) c.index_of.result c.index_of.ensures (head-leaf a.m.now _ c.head_of.result c.head_of.ensures _ (c.in_ok-head_of.was ∙ ap Ok c.in-Leaf.is)).0 c.compact_in.result _ c.compact_in.ensures

pub returns-in-List : goal.returns-in-List
returns-in-List c =
    let a = c.args in
    call-lists a.m.now a.slot c.check_all.result c.check_all.ensures c.in_ok-check_all.was c.load-found.result c.load-found.ensures (omega arith) c.index_of.result c.index_of.ensures (list-no-leaf a.m.now _ (head-list a.m.now _ c.head_of.result c.head_of.ensures _ (c.in_ok-head_of.was ∙ ap Ok c.in-List.is)).0)

pub returns-in-Free : goal.returns-in-Free
returns-in-Free c =
    let a = c.args in
    let h = head-free a.m.now _ c.head_of.result c.head_of.ensures _ (c.in_ok-head_of.was ∙ ap Ok c.in-Free.is) in
    absurd (some-node a.m.now a.slot c.check_all.result c.check_all.ensures c.in_ok-check_all.was c.load-found.result c.load-found.ensures (omega arith) c.index_of.result c.index_of.ensures h.0 h.1)

pub returns-in_err-head_of : goal.returns-in_err-head_of
returns-in_err-head_of c =
    let a = c.args in
    let h = head-none a.m.now _ c.head_of.result c.head_of.ensures _ c.in_err-head_of.was in
    absurd (some-node a.m.now a.slot c.check_all.result c.check_all.ensures c.in_ok-check_all.was c.load-found.result c.load-found.ensures (omega arith) c.index_of.result c.index_of.ensures h.0 h.1)
