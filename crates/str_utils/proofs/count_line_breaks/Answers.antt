-- `str_utils::count_line_breaks` meets its contract: breaks counted over bytes.
use Rattle.answer.proofs.Opened.{passed}
use Rattle.plain.specs.Count.{breaks}
use Rattle.plain.proofs.Text.{breaks-encode}
use Rattle.str_utils.proofs.Laws.{text-is, text-passed, text-valid}
use Rattle.str_utils.proofs.count_line_breaks.Goals as goal

pub returns-in_err-checked : goal.returns-in_err-checked
returns-in_err-checked c = rw (passed c.in_err-checked.was c.from_residual.ensures.1) (text-passed _ _ _ c.checked.ensures _ _ c.in_err-checked.was)

pub returns : goal.returns
returns c =
    let text = c.args.text.now in
    text-is text _ breaks breaks-encode _ (text-valid text _ _ c.checked.ensures _ c.in_ok-checked.was)
    c.count_breaks.ensures
