-- `edit_in` meets its contract: loaded, edited, stored.
use Rattle.answer.proofs.Opened.{passed}
use Rattle.answer.specs.Answers.{outcome}
use mathlib.Core.Path.{ap}
use Rattle.list_calls.proofs.Opened.{listed, wrote-stops, wrote-goes}
use Rattle.list_calls.proofs.writes.edit_in.Goals as goal

pub returns-in_err-had : goal.returns-in_err-had
returns-in_err-had c = rw (passed c.in_err-had.was c.from_residual.ensures.1) (wrote-stops _ _ _ _ _ c.load-had.ensures.answered c.in_err-had.was)

pub returns-in_err-got : goal.returns-in_err-got
returns-in_err-got c = rw (passed c.in_err-got.was c.from_residual-in_err-got.ensures.1) (wrote-goes _ _ _ _ _ _ (listed _ _ _ c.load-had.ensures (ap outcome c.in_ok-had.was)) (wrote-stops _ _ _ _ _ c.edit_by-got.ensures.answered c.in_err-got.was))

pub returns : goal.returns
returns c = wrote-goes _ _ _ _ _ _ (listed _ _ _ c.load-had.ensures (ap outcome c.in_ok-had.was)) (wrote-goes _ _ _ _ _ _ (listed _ _ _ c.edit_by-got.ensures (ap outcome c.in_ok-got.was)) c.store.ensures.0)
