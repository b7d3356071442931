-- `take_out` meets its contract: the search, the two bytes in the leaf, and the edit there.
use mathlib.Core.Path.{◌∙◌}
use Rattle.answer.proofs.Opened.{raised}
use Rattle.splices.proofs.Rules.{lesser-is, cut-refused, cut-not, cut-done}
use Rattle.splices.proofs.take_out.Goals as goal

pub returns-in_err-leaf : goal.returns-in_err-leaf
returns-in_err-leaf c = rw (raised c.from_residual.ensures.1) (
    let a = c.args in
    cut-refused a.m.now a.at a.k c.spot_of.result c.spot_of.ensures.0 _ c.in_err-leaf.was)

pub returns-in_err-splice : goal.returns-in_err-splice
returns-in_err-splice c = rw (raised c.from_residual-in_err-splice.ensures.1) (
    let a = c.args in
    cut-not a.m.now a.at a.k c.spot_of.result c.spot_of.ensures.0 _ _ c.in_ok-leaf.was c.text_at-text.result.now c.text_at-text.ensures.0 _ c.above-inner.ensures _ (c.min-c.ensures ∙ lesser-is c.args.k c.above-inner.result) _ c.byte_in-start.ensures.0 _ c.byte_in-end.ensures.0 c.splice.result _ c.splice.ensures _ c.in_err-splice.was)

pub returns : goal.returns
returns c =
    let a = c.args in
    cut-done a.m.now a.at a.k c.spot_of.result c.spot_of.ensures.0 _ _ c.in_ok-leaf.was c.text_at-text.result.now c.text_at-text.ensures.0 _ c.above-inner.ensures _ (c.min-c.ensures ∙ lesser-is c.args.k c.above-inner.result) _ c.byte_in-start.ensures.0 _ c.byte_in-end.ensures.0 c.splice.result _ c.splice.ensures c.in_ok-splice.was
