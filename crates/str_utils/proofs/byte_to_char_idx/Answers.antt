-- `str_utils::byte_to_char_idx` meets its contract: the chars of the bytes up to the floor.
use Rattle.answer.proofs.Opened.{passed}
use lib.ListN.{take}
use Rattle.plain.specs.Count.{count_if}
use Rattle.plain.specs.Place.{is_start, floor_of}
use Rattle.str_utils.proofs.Laws.{char-of-byte, text-is, text-passed, text-valid}
use Rattle.str_utils.proofs.byte_to_char_idx.Goals as goal

pub returns-in_err-checked : goal.returns-in_err-checked
returns-in_err-checked c = rw (passed c.in_err-checked.was c.from_residual.ensures.1) (text-passed _ _ _ c.checked.ensures _ _ c.in_err-checked.was)

pub returns : goal.returns
returns c =
    let text = c.args.text.now in
    text-is text _ (λ s. count_if is_start (take (floor_of s c.args.byte_idx) s)) (char-of-byte c.args.byte_idx) _ (text-valid text _ _ c.checked.ensures _ c.in_ok-checked.was)
    c.from_byte_idx.ensures
