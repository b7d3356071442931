-- `crlf::find_good_split` meets its contract: the index if it is a break, else one side by the bias.
use Rattle.answer.proofs.Opened.{passed}
use mathlib.Core.Path.{sym, ◌∙◌}
use Rattle.crlf.proofs.Laws.{split_at, split-biased, at_in, index_in, index-value, index-passed}
use Rattle.crlf.proofs.find_good_split.Goals as goal

pub returns-in_err-prev : goal.returns-in_err-prev
returns-in_err-prev c = rw (passed c.in_err-prev.was c.from_residual.ensures.1) (index-passed _ _ _ _ c.prev_break.ensures _ _ c.in_err-prev.was)

pub returns-in_err-next : goal.returns-in_err-next
returns-in_err-next c = rw (passed c.in_err-next.was c.from_residual-in_err-next.ensures.1) (index-passed _ _ _ _ c.next_break.ensures _ _ c.in_err-next.was)

pub breaks_at-requires : goal.breaks_at-requires
breaks_at-requires c = index_in _ _ _ _ c.next_break.ensures _ c.in_ok-next.was

pub returns-then-breaks_at : goal.returns-then-breaks_at
returns-then-breaks_at c =
    at_in _ _ _ _ (index_in _ _ _ _ c.next_break.ensures _ c.in_ok-next.was)
    (sym (split_at _ _ _ (sym c.breaks_at.ensures ∙ c.if-breaks_at.true)))

pub returns : goal.returns
returns c =
    let before-is = c.in_ok-prev.was in
    let behind-is = c.in_ok-next.was in
    let before-says = c.prev_break.ensures in
    let behind-says = c.next_break.ensures in
    at_in _ _ _ _ (index_in _ _ _ _ before-says _ before-is)
    (c.biased.ensures ∙ sym (split-biased _ _ _ _ _ (sym c.breaks_at.ensures ∙ c.if-breaks_at.false) (index-value _ _ _ _ before-says _ before-is) (index-value _ _ _ _ behind-says _ behind-is)))
