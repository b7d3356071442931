-- `text_calls::seam_at` meets its contract: refused past the end, else the seam of the two sides.
use mathlib.Core.Path.{ap, ◌∙◌}
use Rattle.answer.specs.Answers.{refusal_number}
use Rattle.answer.specs.declared.Refusal.{Refusal}
use Rattle.plain.specs.Outcome.{Outcome.refused}
use Rattle.answer.proofs.Opened.{raised}
use Rattle.text_calls.proofs.Laws.{found, missed, seam-past, seam-cut}
use Rattle.text_calls.proofs.seam_at.Goals as goal

pub returns-in_err-left : goal.returns-in_err-left
returns-in_err-left c =
    let past = missed _ _ _ _ _ c.split_at_checked.ensures.cases c.ok_or.ensures.value c.in_err-left.was in
    rw (raised c.from_residual.ensures.1) (ap (λ (q : Refusal). refused (refusal_number q)) past.0 ∙ seam-past _ _ past.1)

pub returns : goal.returns
returns c =
    let cut = found _ _ _ _ _ c.split_at_checked.ensures.cases c.ok_or.ensures.value c.in_ok-left.was in
    c.truth_as_number.ensures ∙ seam-cut _ _ _ _ _ cut c.seam_is_break.ensures
