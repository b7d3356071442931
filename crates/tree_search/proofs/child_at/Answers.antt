-- `child_at` meets its contract.
use Rattle.answer.proofs.Opened.{raised}
use Rattle.tree_search.proofs.Rules.{small-found, child-refused, child-none, child-found}
use Rattle.tree_search.proofs.child_at.Goals as goal

pub returns-in_err-i : goal.returns-in_err-i
returns-in_err-i c = rw (raised c.from_residual.ensures.1) (
    let a = c.args in
    (child-refused a.m.now a.slot a.by a.at _ c.search.ensures.0 _ c.in_err-i.was, tt))

pub returns-in_err-kid : goal.returns-in_err-kid
returns-in_err-kid c = rw (raised c.from_residual-in_err-kid.ensures.1) (
    let a = c.args in
    (child-none a.m.now a.slot a.by a.at _ c.search.ensures.0 _ _ c.in_ok-i.was _ c.child_of.ensures _ c.in_err-kid.was, tt))

pub returns : goal.returns
returns c =
    let a = c.args in
    let f = c.search in (
      child-found a.m.now a.slot a.by a.at _ f.ensures.0 _ _ c.in_ok-i.was _ c.child_of.ensures _ c.in_ok-kid.was,
      (small-found _ _ _ f.ensures.1 c.in_ok-i.was).1,
    )
