-- `str_utils::byte_to_utf16_surrogate_idx` meets its contract: the pairs of the bytes up to the floor.
use Rattle.answer.proofs.Opened.{passed}
use mathlib.Core.Path.{sym, ap, ◌∙◌}
use Prim.Native.Nat.{ℕ}
use lib.ListN.{take}
use lib.Seq.{length-take-le}
use Rattle.plain.specs.Count.{count_if}
use Rattle.plain.specs.Place.{is_wide, floor_of}
use Rattle.str_utils.proofs.Laws.{pairs-of-byte, text-is, text-passed, text-valid}
use Rattle.str_utils.proofs.byte_to_utf16_surrogate_idx.Goals as goal

pub returns-in_err-checked : goal.returns-in_err-checked
returns-in_err-checked c = rw (passed c.in_err-checked.was c.from_residual.ensures.1) (text-passed _ _ _ c.checked.ensures _ _ c.in_err-checked.was)

pub slice_bounds-count_surrogates-end : goal.slice_bounds-count_surrogates-end
slice_bounds-count_surrogates-end c = sym (length-take-le _ _ c.floor-i.ensures.1)

pub returns : goal.returns
returns c =
    let text = c.args.text.now in
    text-is text _ (λ s. count_if is_wide (take (floor_of s c.args.byte_idx) s)) (pairs-of-byte c.args.byte_idx) _ (text-valid text _ _ c.checked.ensures _ c.in_ok-checked.was)
    (c.count_surrogates.ensures ∙ ap (λ (n : ℕ). count_if is_wide (take n text)) c.floor-i.ensures.0)
