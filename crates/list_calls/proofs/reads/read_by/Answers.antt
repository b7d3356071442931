-- `read_by` meets its contract: in each arm, what the call that it makes ensures.
use mathlib.Core.Path.{sym, ap, ◌∙◌}
use Rattle.plain.specs.Outcome.{mapped}
use Rattle.list_calls.specs.Asked.{sums, spot, spot_chars, spots, read_by}
use Rattle.list_calls.proofs.reads.read_by.Goals as goal

pub returns-in-Len : goal.returns-in-Len
unfolding read_by
returns-in-Len c = sym (rw (c.in-Len.is, c.len.ensures))

pub returns-in-IsFull : goal.returns-in-IsFull
unfolding read_by
returns-in-IsFull c = rw c.in-IsFull.is (rw c.is_full.ensures at c.of_truth.ensures)

pub returns-in-CombinedInfo : goal.returns-in-CombinedInfo
unfolding read_by
returns-in-CombinedInfo c = rw c.in-CombinedInfo.is (c.of_sum.ensures ∙ ap (mapped sums) c.combined_info.ensures)

pub returns-in-SearchByteIdx : goal.returns-in-SearchByteIdx
unfolding read_by
returns-in-SearchByteIdx c = rw c.in-SearchByteIdx.is (c.of_found.ensures ∙ ap (mapped spot) c.search_byte_idx.ensures)

pub returns-in-SearchCharIdx : goal.returns-in-SearchCharIdx
unfolding read_by
returns-in-SearchCharIdx c = rw c.in-SearchCharIdx.is (c.of_found-in-SearchCharIdx.ensures ∙ ap (mapped spot) c.search_char_idx.ensures)

pub returns-in-SearchUtf16CodeUnitIdx : goal.returns-in-SearchUtf16CodeUnitIdx
unfolding read_by
returns-in-SearchUtf16CodeUnitIdx c = rw c.in-SearchUtf16CodeUnitIdx.is (c.of_found-in-SearchUtf16CodeUnitIdx.ensures ∙ ap (mapped spot) c.search_utf16_code_unit_idx.ensures)

pub returns-in-SearchCharIdxOnly : goal.returns-in-SearchCharIdxOnly
unfolding read_by
returns-in-SearchCharIdxOnly c = rw c.in-SearchCharIdxOnly.is (c.of_chars.ensures ∙ ap (mapped spot_chars) c.search_char_idx_only.ensures)

pub returns-in-SearchLineBreakIdx : goal.returns-in-SearchLineBreakIdx
unfolding read_by
returns-in-SearchLineBreakIdx c = rw c.in-SearchLineBreakIdx.is (c.of_found-in-SearchLineBreakIdx.ensures ∙ ap (mapped spot) c.search_line_break_idx.ensures)

pub returns-in-SearchCharIdxRange : goal.returns-in-SearchCharIdxRange
unfolding read_by
returns-in-SearchCharIdxRange c = rw c.in-SearchCharIdxRange.is (c.of_range.ensures ∙ ap (mapped spots) c.search_char_idx_range.ensures)
