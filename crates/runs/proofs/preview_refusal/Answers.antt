-- `preview_refusal` meets its contract: what refuses the insertion, and the joined end.
use Rattle.answer.proofs.Opened.{passed}
use Rattle.runs.proofs.Rules.{preview-refused, preview-past, preview-fine}
use Rattle.runs.proofs.preview_refusal.Goals as goal

pub returns-in_err-insert_refusal : goal.returns-in_err-insert_refusal
returns-in_err-insert_refusal c = rw (passed c.in_err-insert_refusal.was c.from_residual.ensures.1) (
    let a = c.args in
    preview-refused a.m.now a.piece.now a.p a.q c.insert_refusal.result c.insert_refusal.ensures _ c.in_err-insert_refusal.was)

pub returns-then-past_both : goal.returns-then-past_both
returns-then-past_both c =
    let a = c.args in
    preview-past a.m.now a.piece.now a.p a.q c.insert_refusal.result c.insert_refusal.ensures c.in_ok-insert_refusal.was _ _ c.chars_of.ensures.0 c.count.ensures _ c.past_both.ensures c.if-past_both.true

pub returns : goal.returns
returns c =
    let a = c.args in
    preview-fine a.m.now a.piece.now a.p a.q c.insert_refusal.result c.insert_refusal.ensures c.in_ok-insert_refusal.was _ _ c.chars_of.ensures.0 c.count.ensures _ c.past_both.ensures c.if-past_both.false
