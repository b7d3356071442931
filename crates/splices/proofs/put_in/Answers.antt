-- `put_in` meets its contract: the search, the byte in the leaf, and the edit there.
use Rattle.answer.proofs.Opened.{raised}
use Rattle.splices.proofs.Rules.{put_refused, put-done}
use Rattle.splices.proofs.put_in.Goals as goal

pub returns-in_err-leaf : goal.returns-in_err-leaf
returns-in_err-leaf c = rw (raised c.from_residual.ensures.1) (
    let a = c.args in
    put_refused a.m.now a.by a.at a.piece.now c.spot_of.result c.spot_of.ensures.0 _ c.in_err-leaf.was)

pub returns : goal.returns
returns c =
    let a = c.args in
    put-done a.m.now a.by a.at a.piece.now c.spot_of.result c.spot_of.ensures.0 _ _ c.in_ok-leaf.was c.text_at.result.now c.text_at.ensures.0 _ c.above.ensures _ c.byte_in-i.ensures.0 _ _ c.splice.ensures
