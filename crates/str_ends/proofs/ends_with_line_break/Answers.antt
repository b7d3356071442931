-- `str_ends::ends_with_line_break` meets its contract: the break that ends the bytes is the one that ends the text.
use mathlib.Core.Path.{sym, ap, ◌∙◌}
use Prim.Native.Nat.{ℕ}
use lib.Dec.{ltb}
use Rattle.plain.specs.Count.{tail_break}
use Rattle.plain.proofs.Text.{tail-encode}
use Rattle.str_utils.proofs.Laws.{text-refused, text-is}
use Rattle.str_ends.proofs.ends_with_line_break.Goals as goal

pub returns-then-valid : goal.returns-then-valid
returns-then-valid c =
    text-is _ _ (λ s. ltb 0 (tail_break s)) (λ cs. ap (λ (n : ℕ). ltb 0 n) (tail-encode cs)) _ (sym c.valid.ensures ∙ c.if-valid.true)
    (ap (λ (n : ℕ). ltb 0 n) c.tail_break.ensures.0)

pub returns : goal.returns
returns c = text-refused _ _ (sym c.valid.ensures ∙ c.if-valid.false)
