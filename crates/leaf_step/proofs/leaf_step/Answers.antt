-- `leaf_step` meets its contract.
use Rattle.std.specs.Prelude.{Ok}
use Rattle.answer.proofs.Opened.{raised}
use mathlib.Core.Path.{refl, ap, ◌∙◌}
use mathlib.Core.Logic.{⊎_elim}
use borrow.Author.Tests.{ltb-true}
use Rattle.nodes.proofs.Heads.{head-free, head-list, head-none, list-no-leaf, head-no-leaf}
use Rattle.leaf_step.proofs.Rules.{leaf-small, no-leaf, step-split, step-apart, step-fit}
use Rattle.leaf_step.proofs.leaf_step.Goals as goal

pub overflow_sub-len : goal.overflow_sub-len
overflow_sub-len c =
    leaf-small c.args.m.now c.args.slot c.args.start c.args.end c.args.piece.now c.head_of.result c.head_of.ensures _ (c.in_ok-len.was ∙ ap Ok c.in-Leaf.is)

pub returns-then-len-piece : goal.returns-then-len-piece
returns-then-len-piece c =
    step-split c.args.m.now c.args.slot c.args.start c.args.end c.args.piece.now c.head_of.result c.head_of.ensures _ (c.in_ok-len.was ∙ ap Ok c.in-Leaf.is) c.if-start-end.true (ltb-true _ _ c.if-len-piece.true-raw) _ _ c.split.ensures

pub returns-in_err-len : goal.returns-in_err-len
returns-in_err-len c = rw (raised c.from_residual.ensures.1) (
    let w = head-none c.args.m.now c.args.slot c.head_of.result c.head_of.ensures _ c.in_err-len.was in
    no-leaf c.args.m.now c.args.slot c.args.start c.args.end c.args.piece.now w.0 _ w.2)

pub returns : goal.returns
returns c =
    let a = c.args in
    let t = c.fit.ensures in
    ⊎_elim (λ w. step-fit a.m.now a.slot a.start a.end a.piece.now c.head_of.result c.head_of.ensures _ (c.in_ok-len.was ∙ ap Ok c.in-Leaf.is) w.if-len-piece.false _ _ t)
    (λ w. step-apart a.m.now a.slot a.start a.end a.piece.now c.head_of.result c.head_of.ensures _ (c.in_ok-len.was ∙ ap Ok c.in-Leaf.is) w.if-start-end.false _ _ t) c.else-start-end.branch-raw

pub returns-in_default : goal.returns-in_default
returns-in_default c =
    no-leaf c.args.m.now c.args.slot c.args.start c.args.end c.args.piece.now (head-no-leaf c.args.m.now c.args.slot _ c.head_of.ensures _ c.in_ok-len.was c.in_default.not-Leaf) _ refl
