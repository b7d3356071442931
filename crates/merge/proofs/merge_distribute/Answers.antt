-- `merge_distribute` meets its contract.
use Rattle.answer.proofs.Opened.{raised}
use Rattle.answer.specs.Answers.{outcome}
use mathlib.Core.Path.{sym, ap, ◌∙◌}
use Rattle.merge.proofs.Merged.{loaded-list, loaded-never, may-merge, merging-not, merging-done}
use Rattle.merge.proofs.merge_distribute.Goals as goal

pub merge_pair-requires : goal.merge_pair-requires
merge_pair-requires c =
    let e = ap outcome (sym c.in_ok-check_pair.was) ∙ c.check_pair.ensures in
    may-merge c.args.m.now c.args.slot c.args.idx1 c.args.idx2 e c.load-found.result.list (loaded-list c.args.m.now c.args.slot c.args.idx1 c.args.idx2 e c.load-found.result c.load-found.ensures)

pub returns-in_err-check_pair : goal.returns-in_err-check_pair
returns-in_err-check_pair c = rw (raised c.from_residual.ensures.1) (
    merging-not c.args.m.now c.args.slot c.args.idx1 c.args.idx2 _ (ap outcome (sym c.in_err-check_pair.was) ∙ c.check_pair.ensures))

pub returns-in_err-may : goal.returns-in_err-may
returns-in_err-may c =
    loaded-never c.args.m.now c.args.slot c.args.idx1 c.args.idx2 (ap outcome (sym c.in_ok-check_pair.was) ∙ c.check_pair.ensures) c.load-found.result c.load-found.ensures _ c.in_err-may.was

pub returns : goal.returns
returns c =
    let e = ap outcome (sym c.in_ok-check_pair.was) ∙ c.check_pair.ensures in
    merging-done c.args.m.now c.args.slot c.args.idx1 c.args.idx2 e c.load-found.result.list (loaded-list c.args.m.now c.args.slot c.args.idx1 c.args.idx2 e c.load-found.result c.load-found.ensures) c.merge_pair.result _ c.merge_pair.ensures
