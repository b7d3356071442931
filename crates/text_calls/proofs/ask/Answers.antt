-- `text_calls::ask` meets its contract: in each arm, what the call that it makes ensures.
use mathlib.Core.Path.{ap, ◌∙◌}
use Rattle.plain.specs.Outcome.{Outcome.value}
use Rattle.text_calls.specs.Asked.{counted}
use Rattle.text_calls.specs.declared.Call.TheVariants.{IsBreak, SeamIsBreak, PrevBreak, NextBreak, NearestInternalBreak, FindGoodSplit, CountChars, ByteToCharIdx, CharToByteIdx, CountUtf16Surrogates, CountLineBreaks, ByteToLineIdx, LineToByteIdx, CharToLineIdx, LineToCharIdx, ByteToUtf16SurrogateIdx, Utf16CodeUnitToCharIdx, LastLineStartByteIdx, TrimLineBreak, EndsWithLineBreak, Valid}
use Rattle.text_calls.proofs.Laws.{by_call, truth-is}
use Rattle.text_calls.proofs.ask.Goals as goal

pub returns-in-IsBreak : goal.returns-in-IsBreak
returns-in-IsBreak c = by_call _ IsBreak _ _ _ _ c.in-IsBreak.is (c.truth_as_number.ensures ∙ ap counted c.is_break.ensures)

pub returns-in-SeamIsBreak : goal.returns-in-SeamIsBreak
returns-in-SeamIsBreak c = by_call _ SeamIsBreak _ _ _ _ c.in-SeamIsBreak.is c.seam_at.ensures

pub returns-in-PrevBreak : goal.returns-in-PrevBreak
returns-in-PrevBreak c = by_call _ PrevBreak _ _ _ _ c.in-PrevBreak.is c.prev_break.ensures

pub returns-in-NextBreak : goal.returns-in-NextBreak
returns-in-NextBreak c = by_call _ NextBreak _ _ _ _ c.in-NextBreak.is c.next_break.ensures

pub returns-in-NearestInternalBreak : goal.returns-in-NearestInternalBreak
returns-in-NearestInternalBreak c = by_call _ NearestInternalBreak _ _ _ _ c.in-NearestInternalBreak.is c.nearest_internal_break.ensures

pub returns-in-FindGoodSplit : goal.returns-in-FindGoodSplit
returns-in-FindGoodSplit c = by_call _ FindGoodSplit _ _ _ _ c.in-FindGoodSplit.is c.find_good_split.ensures

pub returns-in-CountChars : goal.returns-in-CountChars
returns-in-CountChars c = by_call _ CountChars _ _ _ _ c.in-CountChars.is c.count_chars.ensures

pub returns-in-ByteToCharIdx : goal.returns-in-ByteToCharIdx
returns-in-ByteToCharIdx c = by_call _ ByteToCharIdx _ _ _ _ c.in-ByteToCharIdx.is c.byte_to_char_idx.ensures

pub returns-in-CharToByteIdx : goal.returns-in-CharToByteIdx
returns-in-CharToByteIdx c = by_call _ CharToByteIdx _ _ _ _ c.in-CharToByteIdx.is c.char_to_byte_idx.ensures

pub returns-in-CountUtf16Surrogates : goal.returns-in-CountUtf16Surrogates
returns-in-CountUtf16Surrogates c = by_call _ CountUtf16Surrogates _ _ _ _ c.in-CountUtf16Surrogates.is c.count_utf16_surrogates.ensures

pub returns-in-CountLineBreaks : goal.returns-in-CountLineBreaks
returns-in-CountLineBreaks c = by_call _ CountLineBreaks _ _ _ _ c.in-CountLineBreaks.is c.count_line_breaks.ensures

pub returns-in-ByteToLineIdx : goal.returns-in-ByteToLineIdx
returns-in-ByteToLineIdx c = by_call _ ByteToLineIdx _ _ _ _ c.in-ByteToLineIdx.is c.byte_to_line_idx.ensures

pub returns-in-LineToByteIdx : goal.returns-in-LineToByteIdx
returns-in-LineToByteIdx c = by_call _ LineToByteIdx _ _ _ _ c.in-LineToByteIdx.is c.line_to_byte_idx.ensures

pub returns-in-CharToLineIdx : goal.returns-in-CharToLineIdx
returns-in-CharToLineIdx c = by_call _ CharToLineIdx _ _ _ _ c.in-CharToLineIdx.is c.char_to_line_idx.ensures

pub returns-in-LineToCharIdx : goal.returns-in-LineToCharIdx
returns-in-LineToCharIdx c = by_call _ LineToCharIdx _ _ _ _ c.in-LineToCharIdx.is c.line_to_char_idx.ensures

pub returns-in-ByteToUtf16SurrogateIdx : goal.returns-in-ByteToUtf16SurrogateIdx
returns-in-ByteToUtf16SurrogateIdx c = by_call _ ByteToUtf16SurrogateIdx _ _ _ _ c.in-ByteToUtf16SurrogateIdx.is c.byte_to_utf16_surrogate_idx.ensures

pub returns-in-Utf16CodeUnitToCharIdx : goal.returns-in-Utf16CodeUnitToCharIdx
returns-in-Utf16CodeUnitToCharIdx c = by_call _ Utf16CodeUnitToCharIdx _ _ _ _ c.in-Utf16CodeUnitToCharIdx.is c.utf16_code_unit_to_char_idx.ensures

pub returns-in-LastLineStartByteIdx : goal.returns-in-LastLineStartByteIdx
returns-in-LastLineStartByteIdx c = by_call _ LastLineStartByteIdx _ _ _ _ c.in-LastLineStartByteIdx.is c.last_line_start_byte_idx.ensures

pub returns-in-TrimLineBreak : goal.returns-in-TrimLineBreak
returns-in-TrimLineBreak c = by_call _ TrimLineBreak _ _ _ _ c.in-TrimLineBreak.is c.trimmed_len.ensures

pub returns-in-EndsWithLineBreak : goal.returns-in-EndsWithLineBreak
returns-in-EndsWithLineBreak c = by_call _ EndsWithLineBreak _ _ _ _ c.in-EndsWithLineBreak.is (c.truth_as_number-in-EndsWithLineBreak.ensures ∙ ap counted c.ends_with_line_break.ensures)

pub returns-in-Valid : goal.returns-in-Valid
returns-in-Valid c = by_call _ Valid _ _ _ _ c.in-Valid.is (ap value (c.from.ensures ∙ truth-is _ _ c.valid.ensures))
