-- `str_utils::char_to_byte_idx` meets its contract: the byte at which the char begins.
use Rattle.answer.proofs.Opened.{passed}
use Rattle.plain.specs.Place.{start_chars, place_of}
use Rattle.plain.proofs.Place.{byte-of-char}
use Rattle.str_utils.proofs.Laws.{text-is, text-passed, text-valid}
use Rattle.str_utils.proofs.char_to_byte_idx.Goals as goal

pub returns-in_err-checked : goal.returns-in_err-checked
returns-in_err-checked c = rw (passed c.in_err-checked.was c.from_residual.ensures.1) (text-passed _ _ _ c.checked.ensures _ _ c.in_err-checked.was)

pub returns : goal.returns
returns c =
    let text = c.args.text.now in
    text-is text _ (λ s. place_of start_chars s c.args.char_idx) (λ cs. byte-of-char cs c.args.char_idx) _ (text-valid text _ _ c.checked.ensures _ c.in_ok-checked.was)
    c.to_byte_idx.ensures
