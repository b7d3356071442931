-- `str_utils::char_to_line_idx` meets its contract: the line of the char's byte.
use Rattle.answer.proofs.Opened.{passed}
use mathlib.Core.Path.{ap, ◌∙◌}
use Rattle.plain.specs.Count.{line_at}
use Rattle.plain.specs.Place.{start_chars, place_of}
use Rattle.str_utils.proofs.Laws.{line-of-char, text-is, text-passed, text-valid}
use Rattle.str_utils.proofs.char_to_line_idx.Goals as goal

pub returns-in_err-checked : goal.returns-in_err-checked
returns-in_err-checked c = rw (passed c.in_err-checked.was c.from_residual.ensures.1) (text-passed _ _ _ c.checked.ensures _ _ c.in_err-checked.was)

pub returns : goal.returns
returns c =
    let text = c.args.text.now in
    text-is text _ (λ s. line_at s (place_of start_chars s c.args.char_idx)) (line-of-char c.args.char_idx) _ (text-valid text _ _ c.checked.ensures _ c.in_ok-checked.was)
    (c.from_byte_idx.ensures ∙ ap (line_at text) c.to_byte_idx.ensures)
