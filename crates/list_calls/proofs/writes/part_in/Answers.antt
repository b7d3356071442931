-- `part_in` meets its contract: loaded, parted, and both stored. Where the second slot is none, storing refuses as the rules say.
use Rattle.answer.proofs.Opened.{passed}
use Rattle.answer.specs.Answers.{outcome}
use mathlib.Core.Path.{ap}
use Rattle.list_calls.specs.Asked.{part_by}
use Rattle.list_calls.proofs.Opened.{listed, two, wrote-stops, wrote-goes}
use Rattle.list_calls.proofs.Tests.{parted_goes, parted-stops}
use Rattle.list_calls.proofs.writes.part_in.Goals as goal

pub returns-in_err-had : goal.returns-in_err-had
returns-in_err-had c = rw (passed c.in_err-had.was c.from_residual.ensures.1) (wrote-stops _ _ _ _ _ c.load-had.ensures.answered c.in_err-had.was)

pub returns-in_default : goal.returns-in_default
returns-in_default c =
    let a = c.args in
    wrote-goes _ _ _ _ _ _ (listed _ _ _ c.load-had.ensures (ap outcome c.in_ok-had.was))
    (parted-stops a.m.now a.slot a.other (part_by a.what a.i a.kid c.load-had.result.list) c.part_by-got.result.verdict c.ordered.result c.no_other.result _ c.no_other.ensures c.part_by-got.ensures.answered c.in_default.is c.ordered.ensures)

pub returns : goal.returns
returns c =
    wrote-goes _ _ _ _ _ _ (listed _ _ _ c.load-had.ensures (ap outcome c.in_ok-had.was))
    (parted_goes _ _ _ _ _ _ _ _ (two _ _ _ _ c.part_by-got.ensures (ap outcome c.in-Ok.is)) c.store_both.ensures)
