-- `remove_over` meets its contract: cut at once where no LF follows, else behind the guard.
use mathlib.Core.Path.{sym, ◌∙◌}
use native.Mathlib.Omega.{arith}
use borrow.Author.Tests.{not-true}
use Rattle.edit_promise.proofs.Removal.{plain-cuts, guard-puts, guard-here, cr-one, cr-cuts, cr-done, rest-cuts, last-cuts, last_done}
use Rattle.note_edits.proofs.Steps.{never}
use Rattle.note_edits.proofs.remove_over.Goals as goal

pub at_lf-requires : goal.at_lf-requires
at_lf-requires c = (c.requires.0.holds, c.requires.0.high)

pub cut-requires : goal.cut-requires
cut-requires c = plain-cuts c.args.m.now c.args.s c.args.e c.requires.0 (sym c.at_lf.ensures ∙ not-true _ c.if-not-at_lf.true-raw)

pub returns-then-not-at_lf : goal.returns-then-not-at_lf
returns-then-not-at_lf c = c.cut.ensures

pub insert_own-requires : goal.insert_own-requires
insert_own-requires c = guard-puts c.args.m.now c.args.s c.args.e c.requires.0

pub returns-in_err-insert_own : goal.returns-in_err-insert_own
returns-in_err-insert_own c = never _ c.insert_own.ensures.0 _ c.in_err-insert_own.was

pub behind_cr-requires : goal.behind_cr-requires
behind_cr-requires c = (c.insert_own.ensures.1.holds, guard-here c.args.m.now c.args.s c.args.e c.requires.0 _ c.insert_own.ensures.1)

pub overflow_sub-s : goal.overflow_sub-s
overflow_sub-s c = cr-one c.args.m.now c.args.s c.args.e c.requires.0 _ c.insert_own.ensures.1 (sym c.behind_cr.ensures ∙ c.if-behind_cr.true)

pub cut-requires-then-behind_cr : goal.cut-requires-then-behind_cr
cut-requires-then-behind_cr c = cr-cuts c.args.m.now c.args.s c.args.e c.requires.0 _ c.insert_own.ensures.1 (sym c.behind_cr.ensures ∙ c.if-behind_cr.true)

pub returns-then-behind_cr : goal.returns-then-behind_cr
returns-then-behind_cr c = (c.cut-then-behind_cr.ensures.0, cr-done c.args.m.now c.args.s c.args.e c.requires.0 _ c.insert_own.ensures.1 (sym c.behind_cr.ensures ∙ c.if-behind_cr.true) _ c.cut-then-behind_cr.ensures.1)

pub cut-requires-2 : goal.cut-requires-2
cut-requires-2 c = rest-cuts c.args.m.now c.args.s c.args.e c.requires.0 _ c.insert_own.ensures.1 (sym c.behind_cr.ensures ∙ c.if-behind_cr.false)

pub returns-in_err-cut : goal.returns-in_err-cut
returns-in_err-cut c = never _ c.cut-2.ensures.0 _ c.in_err-cut.was

pub overflow_add-s : goal.overflow_add-s
overflow_add-s c = record { fits = omega (arith, c.requires.1, c.ranges.e.fits) }

pub cut-requires-3 : goal.cut-requires-3
cut-requires-3 c = last-cuts c.args.m.now c.args.s c.args.e c.requires.0 _ c.insert_own.ensures.1 (sym c.behind_cr.ensures ∙ c.if-behind_cr.false) _ c.cut-2.ensures.1

pub returns : goal.returns
returns c = (c.cut-3.ensures.0, last_done c.args.m.now c.args.s c.args.e c.requires.0 _ c.insert_own.ensures.1 (sym c.behind_cr.ensures ∙ c.if-behind_cr.false) _ c.cut-2.ensures.1 _ c.cut-3.ensures.1)
