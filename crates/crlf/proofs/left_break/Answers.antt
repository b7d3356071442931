-- `crlf::left_break` meets its contract: the three cases of the left break.
use Rattle.answer.proofs.Opened.{passed}
use mathlib.Core.Path.{sym, ◌∙◌}
use Rattle.crlf.proofs.Laws.{left_end, left_at, left-prev, at_in, index_in, index-value, index-passed}
use Rattle.crlf.proofs.left_break.Goals as goal

pub returns-in_err-prev : goal.returns-in_err-prev
returns-in_err-prev c = rw (passed c.in_err-prev.was c.from_residual.ensures.1) (index-passed _ _ _ _ c.prev_break.ensures _ _ c.in_err-prev.was)

pub returns-then-byte_idx-text : goal.returns-then-byte_idx-text
returns-then-byte_idx-text c =
    let promise = c.prev_break.ensures in
    let is = c.in_ok-prev.was in
    at_in _ _ _ _ (index_in _ _ _ _ promise _ is) (index-value _ _ _ _ promise _ is ∙ sym (left_end _ _ c.if-byte_idx-text.true))

pub breaks_at-requires : goal.breaks_at-requires
breaks_at-requires c = index_in _ _ _ _ c.prev_break.ensures _ c.in_ok-prev.was

pub returns-then-breaks_at : goal.returns-then-breaks_at
returns-then-breaks_at c =
    let promise = c.prev_break.ensures in
    let is = c.in_ok-prev.was in
    at_in _ _ _ _ (index_in _ _ _ _ promise _ is) (sym (left_at _ _ c.if-byte_idx-text.false (sym c.breaks_at.ensures ∙ c.if-breaks_at.true)))

pub returns : goal.returns
returns c =
    let promise = c.prev_break.ensures in
    let is = c.in_ok-prev.was in
    at_in _ _ _ _ (index_in _ _ _ _ promise _ is) (index-value _ _ _ _ promise _ is ∙ sym (left-prev _ _ (sym c.breaks_at.ensures ∙ c.if-breaks_at.false)))
