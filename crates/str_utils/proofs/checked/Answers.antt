-- `str_utils::checked` meets its contract: what `utf8::valid` ensures.
use mathlib.Core.Path.{refl, sym, ◌∙◌}
use lib.ListN.{length}
use Rattle.str_utils.proofs.Laws.{text-refused, text-is}
use Rattle.str_utils.proofs.checked.Goals as goal

pub returns-then-valid : goal.returns-then-valid
returns-then-valid c = text-is _ _ (λ s. length s) (λ cs. refl) _ (sym c.valid.ensures ∙ c.if-valid.true) refl

pub returns : goal.returns
returns c = text-refused _ _ (sym c.valid.ensures ∙ c.if-valid.false)
