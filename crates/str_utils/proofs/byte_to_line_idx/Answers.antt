-- `str_utils::byte_to_line_idx` meets its contract: lines of bytes are those of the chars that hold them.
use Rattle.answer.proofs.Opened.{passed}
use Rattle.plain.specs.Count.{line_at}
use Rattle.plain.proofs.Text.{line-byte}
use Rattle.str_utils.proofs.Laws.{text-is, text-passed, text-valid}
use Rattle.str_utils.proofs.byte_to_line_idx.Goals as goal

pub returns-in_err-checked : goal.returns-in_err-checked
returns-in_err-checked c = rw (passed c.in_err-checked.was c.from_residual.ensures.1) (text-passed _ _ _ c.checked.ensures _ _ c.in_err-checked.was)

pub returns : goal.returns
returns c =
    let text = c.args.text.now in
    text-is text _ (λ s. line_at s c.args.byte_idx) (λ cs. line-byte cs c.args.byte_idx) _ (text-valid text _ _ c.checked.ensures _ c.in_ok-checked.was)
    c.from_byte_idx.ensures
