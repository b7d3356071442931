-- `take_in` meets its contract: loaded, taken, stored.
use Rattle.answer.specs.Answers.{outcome}
use mathlib.Core.Path.{ap}
use Rattle.list_calls.proofs.Opened.{listed, taken, replied-stops, replied-goes, wrote-replied}
use Rattle.list_calls.proofs.writes.take_in.Goals as goal

pub returns-in_default : goal.returns-in_default
returns-in_default c = replied-stops _ _ _ _ _ _ c.load-had.ensures.answered c.in_default.is c.of_verdict.ensures

pub returns-in_default-w : goal.returns-in_default-w
returns-in_default-w c = replied-goes _ _ _ _ _ _ (listed _ _ _ c.load-had.ensures (ap outcome c.in-Ok.is)) (replied-stops _ _ _ _ _ _ c.take_by-got.ensures.answered c.in_default-w.is c.of_verdict-in_default-w.ensures)

pub returns : goal.returns
returns c = replied-goes _ _ _ _ _ _ (listed _ _ _ c.load-had.ensures (ap outcome c.in-Ok.is)) (replied-goes _ _ _ _ _ _ (taken _ _ _ c.take_by-got.ensures (ap outcome c.in-Ok-w.is)) (wrote-replied _ _ _ _ _ _ c.store.ensures.0 c.of_kid.ensures))
