-- `edit_inside` meets its contract: chars of the leaf stay before and behind, or nothing is done.
use Rattle.descent.proofs.Rules.{none_before, none-behind, some-inside, end_is}
use Rattle.descent.proofs.edit_inside.Goals as goal

pub returns-then-at-k : goal.returns-then-at-k
returns-then-at-k c = let a = c.args in none_before a.m.now a.slot a.at a.k a.piece.now c.if-at-k.true

pub returns-then-text-end : goal.returns-then-text-end
returns-then-text-end c =
    let a = c.args in
    none-behind a.m.now a.slot a.at a.k a.piece.now c.if-at-k.false c.text_at-text.result.now c.text_at-text.ensures.0 _
    (end_is c.text_at-text.result.now a.at a.k c.if-at-k.false _ c.byte_in-start.ensures.0 c.behind.result.now c.behind.ensures.0 _ c.byte_in.ensures.0) c.if-text-end.true

pub returns : goal.returns
returns c =
    let a = c.args in
    some-inside a.m.now a.slot a.at a.k a.piece.now c.if-at-k.false c.text_at-text.result.now c.text_at-text.ensures.0 _
    (end_is c.text_at-text.result.now a.at a.k c.if-at-k.false _ c.byte_in-start.ensures.0 c.behind.result.now c.behind.ensures.0 _ c.byte_in.ensures.0) c.if-text-end.false _ c.byte_in-start.ensures.0 _ _ c.leaf_step.ensures
