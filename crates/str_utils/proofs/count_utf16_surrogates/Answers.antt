-- `str_utils::count_utf16_surrogates` meets its contract: pairs counted over bytes.
use Rattle.answer.proofs.Opened.{passed}
use Rattle.plain.specs.Count.{count_if}
use Rattle.plain.specs.Place.{is_wide}
use Rattle.plain.proofs.Text.{pairs-encode}
use Rattle.str_utils.proofs.Laws.{text-is, text-passed, text-valid}
use Rattle.str_utils.proofs.count_utf16_surrogates.Goals as goal

pub returns-in_err-checked : goal.returns-in_err-checked
returns-in_err-checked c = rw (passed c.in_err-checked.was c.from_residual.ensures.1) (text-passed _ _ _ c.checked.ensures _ _ c.in_err-checked.was)

pub returns : goal.returns
returns c =
    let text = c.args.text.now in
    text-is text _ (count_if is_wide) pairs-encode _ (text-valid text _ _ c.checked.ensures _ c.in_ok-checked.was)
    c.count_surrogates.ensures
