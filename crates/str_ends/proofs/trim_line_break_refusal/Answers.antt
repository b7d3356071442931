-- `str_ends::trim_line_break_refusal` meets its contract: what `utf8::valid` ensures.
use mathlib.Core.Path.{refl, sym, ◌∙◌}
use borrow.Author.Tests.{not-true, not-false}
use Rattle.str_utils.proofs.Laws.{text-refused, text-is}
use Rattle.str_ends.proofs.trim_line_break_refusal.Goals as goal

pub returns-then-not-valid : goal.returns-then-not-valid
returns-then-not-valid c = text-refused _ _ (sym c.valid.ensures ∙ not-true _ c.if-not-valid.true-raw)

pub returns : goal.returns
returns c = text-is _ _ (λ s. tt) (λ cs. refl) _ (sym c.valid.ensures ∙ not-false _ c.if-not-valid.false-raw) refl
