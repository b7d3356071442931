-- `str_utils::line_to_byte_idx` meets its contract: starts of lines over bytes.
use Rattle.answer.proofs.Opened.{passed}
use Rattle.plain.specs.Count.{line_start}
use Rattle.plain.proofs.Place.{start-encode}
use Rattle.str_utils.proofs.Laws.{text-is, text-passed, text-valid}
use Rattle.str_utils.proofs.line_to_byte_idx.Goals as goal

pub returns-in_err-checked : goal.returns-in_err-checked
returns-in_err-checked c = rw (passed c.in_err-checked.was c.from_residual.ensures.1) (text-passed _ _ _ c.checked.ensures _ _ c.in_err-checked.was)

pub returns : goal.returns
returns c =
    let text = c.args.text.now in
    text-is text _ (λ s. line_start s c.args.line_idx) (λ cs. start-encode cs c.args.line_idx) _ (text-valid text _ _ c.checked.ensures _ c.in_ok-checked.was)
    c.to_byte_idx.ensures
