-- `search_by` meets its contract.
use Prim.Native.Nat.{◌≤◌}
use native.Mathlib.Omega.{arith}
use Rattle.child_search.proofs.Sums.{within_none, within_more}
use Rattle.child_search.proofs.Rules.{searched-none, searched-past, searched-long, searched-done}
use Rattle.child_search.proofs.search_by.Goals as goal

pub returns-then-n-eq0 : goal.returns-then-n-eq0
returns-then-n-eq0 c = let a = c.args in (searched-none a.list a.m a.at (omega arith), tt)

pub returns-then-most-at : goal.returns-then-most-at
returns-then-most-at c =
    let a = c.args in
    (searched-past a.list a.m a.at (omega arith) _ _ c.sum_of.ensures.0 c.most.ensures (omega arith), tt)

pub returns-then-n-gt-MAX_LEN : goal.returns-then-n-gt-MAX_LEN
returns-then-n-gt-MAX_LEN c =
    let a = c.args in
    (searched-long a.list a.m a.at (omega arith) _ _ c.sum_of.ensures.0 c.most.ensures (omega arith) (omega arith), tt)

pub seek-spot-requires : goal.seek-spot-requires
seek-spot-requires c = (omega arith, omega arith, within_none c.new.result c.new.ensures)

pub returns : goal.returns
returns c =
    let a = c.args in
    let f = c.seek-spot.ensures in
    let few : a.list.len ≤ 16 = omega (arith, c.if-n-gt-MAX_LEN.false) in (
      searched-done a.list a.m a.at (omega (arith, c.if-n-eq0.false)) _ _ c.sum_of.ensures.0 c.most.ensures c.new.result _ _ (omega (arith, c.if-most-at.false)) few c.new.ensures f,
      (omega (arith, f.child), within_more _ _ 16 (omega (arith, f.child)) f.small),
    )
