-- `distribute_in` meets its contract: both loaded, distributed, and both stored.
use Rattle.answer.proofs.Opened.{passed}
use Rattle.answer.specs.Answers.{outcome}
use mathlib.Core.Path.{ap}
use Rattle.list_calls.proofs.Opened.{listed, two, wrote-stops, wrote-goes}
use Rattle.list_calls.proofs.writes.distribute_in.Goals as goal

pub returns-in_err-left : goal.returns-in_err-left
returns-in_err-left c = rw (passed c.in_err-left.was c.from_residual.ensures.1) (wrote-stops _ _ _ _ _ c.load-left.ensures.answered c.in_err-left.was)

pub returns-in_err-right : goal.returns-in_err-right
returns-in_err-right c = rw (passed c.in_err-right.was c.from_residual-in_err-right.ensures.1) (wrote-goes _ _ _ _ _ _ (listed _ _ _ c.load-left.ensures (ap outcome c.in_ok-left.was)) (wrote-stops _ _ _ _ _ c.load-right.ensures.answered c.in_err-right.was))

pub returns-in_err-got : goal.returns-in_err-got
returns-in_err-got c = rw (passed c.in_err-got.was c.from_residual-in_err-got.ensures.1) (wrote-goes _ _ _ _ _ _ (listed _ _ _ c.load-left.ensures (ap outcome c.in_ok-left.was)) (wrote-goes _ _ _ _ _ _ (listed _ _ _ c.load-right.ensures (ap outcome c.in_ok-right.was)) (wrote-stops _ _ _ _ _ c.distribute_with-got.ensures.answered c.in_err-got.was)))

pub returns : goal.returns
returns c = wrote-goes _ _ _ _ _ _ (listed _ _ _ c.load-left.ensures (ap outcome c.in_ok-left.was)) (wrote-goes _ _ _ _ _ _ (listed _ _ _ c.load-right.ensures (ap outcome c.in_ok-right.was)) (wrote-goes _ _ _ _ _ _ (two _ _ _ _ c.distribute_with-got.ensures (ap outcome c.in_ok-got.was)) c.store_both.ensures))
