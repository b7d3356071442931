-- `str_utils::utf16_code_unit_to_char_idx` meets its contract: the char of the unit's byte.
use Rattle.answer.proofs.Opened.{passed}
use mathlib.Core.Path.{ap, ◌∙◌}
use Prim.Native.Nat.{ℕ}
use lib.ListN.{take}
use Rattle.plain.specs.Count.{count_if}
use Rattle.plain.specs.Place.{is_start, start_units, floor_of, place_of}
use Rattle.str_utils.proofs.Laws.{char-of-unit, text-is, text-passed, text-valid}
use Rattle.str_utils.proofs.utf16_code_unit_to_char_idx.Goals as goal

pub returns-in_err-checked : goal.returns-in_err-checked
returns-in_err-checked c = rw (passed c.in_err-checked.was c.from_residual.ensures.1) (text-passed _ _ _ c.checked.ensures _ _ c.in_err-checked.was)

pub returns : goal.returns
returns c =
    let text = c.args.text.now in
    text-is text _ (λ s. count_if is_start (take (floor_of s (place_of start_units s c.args.utf16_idx)) s)) (char-of-unit c.args.utf16_idx) _ (text-valid text _ _ c.checked.ensures _ c.in_ok-checked.was)
    (c.from_byte_idx.ensures ∙ ap (λ (n : ℕ). count_if is_start (take (floor_of text n) text)) c.to_byte_idx.ensures)
