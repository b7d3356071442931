-- `search_char_idx_range` meets its contract.
use native.Mathlib.Omega.{arith}
use Rattle.child_search.proofs.Sums.{within_none}
use Rattle.child_search.proofs.Rules.{range_none, range-falls, range-past, range-long, range-done}
use Rattle.child_search.proofs.search_char_idx_range.Goals as goal

pub returns-then-n-eq0 : goal.returns-then-n-eq0
returns-then-n-eq0 c = let a = c.args in range_none a.list a.start_idx a.end_idx (omega arith)

pub returns-then-end_idx-start_idx : goal.returns-then-end_idx-start_idx
returns-then-end_idx-start_idx c = let a = c.args in range-falls a.list a.start_idx a.end_idx (omega arith) (omega arith)

pub returns-then-most-end_idx : goal.returns-then-most-end_idx
returns-then-most-end_idx c =
    let a = c.args in
    range-past a.list a.start_idx a.end_idx (omega arith) _ _ c.sum_of.ensures.0 c.most.ensures (omega arith)

pub returns-then-n-gt-MAX_LEN : goal.returns-then-n-gt-MAX_LEN
returns-then-n-gt-MAX_LEN c =
    let a = c.args in
    range-long a.list a.start_idx a.end_idx (omega arith) _ _ c.sum_of.ensures.0 c.most.ensures (omega arith) (omega arith) (omega arith)

pub seek-l-requires : goal.seek-l-requires
seek-l-requires c = (omega arith, omega arith, within_none c.new.result c.new.ensures)

pub returns : goal.returns
returns c =
    let a = c.args in
    range-done a.list a.start_idx a.end_idx (omega (arith, c.if-n-eq0.false)) _ _ c.sum_of.ensures.0 c.most.ensures c.new.result _ _ _ _ (omega (arith, c.if-end_idx-start_idx.false)) (omega (arith, c.if-most-end_idx.false)) (omega (arith, c.if-n-gt-MAX_LEN.false)) c.new.ensures c.seek-l.ensures c.seek-r.ensures
