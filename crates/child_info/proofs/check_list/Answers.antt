-- `check_list` meets its contract.
use mathlib.Core.Path.{sym, ◌∙◌}
use native.Mathlib.Omega.{arith}
use Rattle.child_info.proofs.Rules.{few-read, all_none, all-on}
use Rattle.child_info.proofs.check_list.Goals as goal

pub returns-then-list-eq0 : goal.returns-then-list-eq0
returns-then-list-eq0 c =
    let a = c.args in
    let p = c.requires in
    sym (all_none a.m.now a.slot a.list p.0 p.1 (omega arith))

pub checked-requires : goal.checked-requires
checked-requires c =
    let a = c.args in
    let p = c.requires in
    few-read a.m.now a.slot a.list p.0 p.1

pub returns : goal.returns
returns c =
    let a = c.args in
    let p = c.requires in
    c.checked.ensures ∙ all-on a.m.now a.slot a.list p.0 p.1 (omega arith)
