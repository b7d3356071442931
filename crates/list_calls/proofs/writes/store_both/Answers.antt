-- `store_both` meets its contract: nothing is written before all tests are passed, and then no list is refused.
use Rattle.answer.proofs.Opened.{passed}
use lib.ListN.{length-map}
use Rattle.list_calls.proofs.Tests.{both-not, first-never, both-done}
use Rattle.list_calls.proofs.writes.store_both.Goals as goal

pub returns-in_err-fit_both : goal.returns-in_err-fit_both
returns-in_err-fit_both c = rw (passed c.in_err-fit_both.was c.from_residual.ensures.1) (both-not _ _ _ _ _ _ c.fit_both.ensures _ c.in_err-fit_both.was)

pub returns-in_err-store : goal.returns-in_err-store
returns-in_err-store c = let a = c.args in first-never a.m.now a.slot a.other a.left a.right _ c.fit_both.ensures c.in_ok-fit_both.was _ _ c.store.ensures.0 _ c.in_err-store.was

pub returns : goal.returns
returns c = both-done _ _ _ _ _ _ c.fit_both.ensures c.in_ok-fit_both.was _ _ c.store.ensures.0 (c.well_formed.1.1.1.0.1.1.1.0.1.0.1) _ _ c.store-2.ensures.0
