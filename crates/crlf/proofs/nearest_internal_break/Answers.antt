-- `crlf::nearest_internal_break` meets its contract: the four cases of the choice between the left break and the right one.
use Rattle.answer.proofs.Opened.{passed}
use mathlib.Core.Path.{sym}
use native.Mathlib.Omega.{arith}
use Rattle.crlf.proofs.Laws.{next-ge, left_le, nearest-first, nearest-last, nearest-right, nearest-left, at_in, index_in, index-value, index-passed}
use Rattle.crlf.proofs.nearest_internal_break.Goals as goal

pub returns-in_err-left : goal.returns-in_err-left
returns-in_err-left c = rw (passed c.in_err-left.was c.from_residual.ensures.1) (index-passed _ _ _ _ c.left_break.ensures _ _ c.in_err-left.was)

pub returns-in_err-right : goal.returns-in_err-right
returns-in_err-right c = rw (passed c.in_err-right.was c.from_residual-in_err-right.ensures.1) (index-passed _ _ _ _ c.next_break.ensures _ _ c.in_err-right.was)

pub returns-then-left-eq0 : goal.returns-then-left-eq0
returns-then-left-eq0 c =
    let before-is = c.in_ok-left.was in
    let behind-is = c.in_ok-right.was in
    let before-says = c.left_break.ensures in
    let behind-says = c.next_break.ensures in
    at_in _ _ _ _ (index_in _ _ _ _ before-says _ before-is) (sym (nearest-first _ _ _ _ (index-value _ _ _ _ before-says _ before-is) (index-value _ _ _ _ behind-says _ behind-is) c.if-left-eq0.true))

pub returns-then-right-text : goal.returns-then-right-text
returns-then-right-text c =
    let before-is = c.in_ok-left.was in
    let behind-is = c.in_ok-right.was in
    let before-says = c.left_break.ensures in
    let behind-says = c.next_break.ensures in
    at_in _ _ _ _ (index_in _ _ _ _ before-says _ before-is) (sym (nearest-last _ _ _ _ (index-value _ _ _ _ before-says _ before-is) (index-value _ _ _ _ behind-says _ behind-is) c.if-left-eq0.false c.if-right-text.true))

pub overflow_sub-right : goal.overflow_sub-right
overflow_sub-right c =
    let before-is = c.in_ok-left.was in
    let behind-is = c.in_ok-right.was in
    let before-says = c.left_break.ensures in
    let behind-says = c.next_break.ensures in
    let h = (index_in _ _ _ _ before-says _ before-is) in
    omega (arith, (index-value _ _ _ _ behind-says _ behind-is), next-ge c.args.text.now c.args.byte_idx h)

pub overflow_sub-byte_idx : goal.overflow_sub-byte_idx
overflow_sub-byte_idx c =
    let before-is = c.in_ok-left.was in
    let before-says = c.left_break.ensures in
    omega (arith, (index-value _ _ _ _ before-says _ before-is), left_le c.args.text.now c.args.byte_idx)

pub returns-then-right-byte_idx : goal.returns-then-right-byte_idx
returns-then-right-byte_idx c =
    let before-is = c.in_ok-left.was in
    let behind-is = c.in_ok-right.was in
    let before-says = c.left_break.ensures in
    let behind-says = c.next_break.ensures in
    at_in _ _ _ _ (index_in _ _ _ _ before-says _ before-is)
    (sym (nearest-right _ _ _ _ (index-value _ _ _ _ before-says _ before-is) (index-value _ _ _ _ behind-says _ behind-is) c.if-left-eq0.false c.if-right-text.false c.if-right-byte_idx.true))

pub returns : goal.returns
returns c =
    let before-is = c.in_ok-left.was in
    let behind-is = c.in_ok-right.was in
    let before-says = c.left_break.ensures in
    let behind-says = c.next_break.ensures in
    at_in _ _ _ _ (index_in _ _ _ _ before-says _ before-is)
    (sym (nearest-left _ _ _ _ (index-value _ _ _ _ before-says _ before-is) (index-value _ _ _ _ behind-says _ behind-is) c.if-left-eq0.false c.if-right-text.false c.if-right-byte_idx.false))
