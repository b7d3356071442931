-- `text_calls::trimmed_len` meets its contract: refused by the companion, else the length of the part.
use Rattle.answer.proofs.Opened.{raised}
use Rattle.answer.specs.Answers.{outcome}
use mathlib.Core.Path.{sym, ap, ◌∙◌}
use Rattle.str_utils.proofs.Laws.{refused-too}
use Rattle.text_calls.proofs.Laws.{part_length}
use Rattle.text_calls.proofs.trimmed_len.Goals as goal

pub returns : goal.returns
returns c =
    part_length _ _ (sym c.trim_line_break_refusal.ensures ∙ ap outcome c.in_ok-trim_line_break_refusal.was) c.trim_line_break.ensures

pub returns-in_err-trim_line_break_refusal : goal.returns-in_err-trim_line_break_refusal
returns-in_err-trim_line_break_refusal c = rw (raised c.from_residual.ensures.1) (
    sym (refused-too _ _ _ _ (sym c.trim_line_break_refusal.ensures ∙ ap outcome c.in_err-trim_line_break_refusal.was)))
