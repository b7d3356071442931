-- `split` meets its contract.
use Rattle.std.specs.Prelude.{Ok}
use Rattle.answer.proofs.Opened.{raised}
use mathlib.Core.Path.{refl, ap, ◌∙◌}
use native.Mathlib.Omega.{arith}
use Rattle.free_slots.proofs.Rules.{head-other, refused-not}
use Rattle.leaf_step.proofs.Rules.{next_fits, split-not, split-on}
use Rattle.leaf_step.proofs.split.Goals as goal

pub halve-requires : goal.halve-requires
halve-requires c =
    next_fits c.args.m.now c.args.slot c.args.at c.args.piece.now c.first_free-right.result c.first_free-right.ensures.0 c.head_of.result c.head_of.ensures _ (c.in_ok-next.was ∙ ap Ok c.in-Free.is) (λ i. omega (arith, c.slice_known-1.given i))

pub returns-in_err-next : goal.returns-in_err-next
returns-in_err-next c = rw (raised c.from_residual.ensures.1) (
    let w = refused-not c.args.m.now c.first_free-right.result c.head_of.result c.head_of.ensures _ c.in_err-next.was in
    split-not c.args.m.now c.args.slot c.args.at c.args.piece.now c.first_free-right.result c.first_free-right.ensures.0 c.head_of.result c.head_of.ensures w.0 _ w.1)

pub returns : goal.returns
returns c =
    split-on c.args.m.now c.args.slot c.args.at c.args.piece.now c.first_free-right.result c.first_free-right.ensures.0 c.head_of.result c.head_of.ensures _ (c.in_ok-next.was ∙ ap Ok c.in-Free.is) _ _ c.halve.ensures

pub returns-in_default : goal.returns-in_default
returns-in_default c =
    let s = c.first_free-right in
    split-not c.args.m.now c.args.slot c.args.at c.args.piece.now s.result s.ensures.0 c.head_of.result c.head_of.ensures (head-other c.args.m.now s.result _ c.head_of.ensures _ c.in_ok-next.was c.in_default.not-Free) _ refl
