-- `fit_both` meets its contract: the tests, in their order.
use Rattle.list_calls.proofs.Tests.{both-other, both-outside, left-long, right-long, both-fit}
use Rattle.list_calls.proofs.writes.fit_both.Goals as goal

pub returns-then-no_other : goal.returns-then-no_other
returns-then-no_other c = let a = c.args in both-other a.m.now a.slot a.other a.left a.right _ c.no_other.ensures c.if-no_other.true

pub returns-in_default : goal.returns-in_default
returns-in_default c = let a = c.args in both-outside a.m.now a.slot a.other a.left a.right _ c.region_start.ensures _ c.in_default.is

pub returns-then-left-gt-MAX_LEN : goal.returns-then-left-gt-MAX_LEN
returns-then-left-gt-MAX_LEN c = let a = c.args in left-long a.m.now a.slot a.other a.left a.right _ c.region_start.ensures _ c.no_other.ensures c.if-no_other.false _ c.in-Ok.is c.if-left-gt-MAX_LEN.true

pub returns-then-right-gt-MAX_LEN : goal.returns-then-right-gt-MAX_LEN
returns-then-right-gt-MAX_LEN c = let a = c.args in right-long a.m.now a.slot a.other a.left a.right _ c.region_start.ensures _ c.no_other.ensures c.if-no_other.false _ c.in-Ok.is c.if-right-gt-MAX_LEN.true

pub returns : goal.returns
returns c = let a = c.args in both-fit a.m.now a.slot a.other a.left a.right _ c.region_start.ensures _ c.no_other.ensures c.if-no_other.false _ c.in-Ok.is c.if-left-gt-MAX_LEN.false c.if-right-gt-MAX_LEN.false
