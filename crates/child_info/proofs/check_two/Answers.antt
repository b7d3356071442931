-- `check_two` meets its contract.
use mathlib.Core.Path.{sym, ◌∙◌}
use native.Mathlib.Omega.{arith}
use Rattle.node_children.specs.Kids.{kids}
use Rattle.node_children.proofs.Lists.{clean-length}
use Rattle.child_info.proofs.Rules.{few-read, clean-read, few-pair, pair-none, pair-falling, pair-beyond, pair-on}
use Rattle.child_info.proofs.check_two.Goals as goal

pub returns-then-n-eq0 : goal.returns-then-n-eq0
returns-then-n-eq0 c =
    let a = c.args in
    let p = c.requires in
    sym (pair-none a.m.now a.slot a.list p.0 p.1 a.idx1 a.idx2 (omega arith))

pub returns-then-idx2-idx1 : goal.returns-then-idx2-idx1
returns-then-idx2-idx1 c =
    let a = c.args in
    let p = c.requires in
    sym (pair-falling a.m.now a.slot a.list p.0 p.1 a.idx1 a.idx2 (omega arith) (omega arith))

pub returns-then-n-idx2 : goal.returns-then-n-idx2
returns-then-n-idx2 c =
    let a = c.args in
    let p = c.requires in
    sym (pair-beyond a.m.now a.slot a.list p.0 p.1 a.idx1 a.idx2 (omega arith) (omega arith))

pub pair_of-requires : goal.pair_of-requires
pair_of-requires c =
    let a = c.args in
    let p = c.requires in
    (omega arith, omega arith, few-read a.m.now a.slot a.list p.0 p.1)

pub checked-requires : goal.checked-requires
checked-requires c =
    let a = c.args in
    let p = c.requires.1 in
    few-pair c.pair_of.result (kids a.list) a.idx1 a.idx2 (omega arith) (omega (arith, clean-length a.list (clean-read a.list _ p))) c.pair_of.ensures

pub returns : goal.returns
returns c =
    let a = c.args in
    let p = c.requires in
    c.checked.ensures
    ∙ pair-on a.m.now a.slot a.list p.0 p.1 a.idx1 a.idx2 c.pair_of.result (omega arith) (omega arith) c.pair_of.ensures
