-- `str_ends::last_line_start_byte_idx` meets its contract: the start of the last line over bytes.
use mathlib.Core.Path.{sym, ap, ◌∙◌}
use Rattle.plain.specs.Chars.{encode}
use Rattle.plain.specs.Count.{breaks, line_start}
use Rattle.plain.proofs.Text.{breaks-encode}
use Rattle.plain.proofs.Place.{start-encode}
use Rattle.str_utils.proofs.Laws.{text-refused, text-is}
use Rattle.str_ends.proofs.last_line_start_byte_idx.Goals as goal

pub returns-then-valid : goal.returns-then-valid
returns-then-valid c =
    text-is _ _ (λ s. line_start s (breaks s)) (λ cs. ap (line_start (encode cs)) (breaks-encode cs) ∙ start-encode cs (breaks cs)) _
    (sym c.valid.ensures ∙ c.if-valid.true) c.last_line.ensures

pub returns : goal.returns
returns c = text-refused _ _ (sym c.valid.ensures ∙ c.if-valid.false)
