-- `put_one` meets its contract: no list, or what becomes of the list.
use Rattle.std.specs.Prelude.{Ok}
use Rattle.answer.proofs.Opened.{raised}
use mathlib.Core.Path.{refl, sym, ap, ◌∙◌}
use Prim.Native.Nat.{ℕ}
use Rattle.plain.specs.Outcome.{Outcome.refused}
use Rattle.answer.specs.declared.Refusal.TheVariants as Refusal·case
use Rattle.nodes.proofs.Heads.{head-free, head-leaf, head-list, head-none, leaf-no-list, head-no-list}
use Rattle.list_step.proofs.Rules.{step-refused}
use Rattle.list_step.proofs.One.{one-not}
use Rattle.list_step.proofs.put_one.Goals as goal

pub put_in-requires : goal.put_in-requires
put_in-requires c =
    let a = c.args in
    let o = c.head_of in
    let h = head-list a.m.now a.slot o.result o.ensures _ (c.in_ok-n.was ∙ ap Ok c.in-List.is) in
    (h.0, h.1)

pub returns-in_err-n : goal.returns-in_err-n
returns-in_err-n c = rw (raised c.from_residual.ensures.1) (
    let a = c.args in
    let o = c.head_of in
    let h = head-none a.m.now a.slot o.result o.ensures _ c.in_err-n.was in
    step-refused _ a.m.now _ _ (one-not a.m.now a.slot a.idx a.info h.1 ∙ ap (λ (n : ℕ). refused n) (sym h.2)) refl)

pub returns-in_default : goal.returns-in_default
returns-in_default c =
    let a = c.args in
    step-refused _ a.m.now Refusal·case.Memory _ (one-not a.m.now a.slot a.idx a.info (head-no-list a.m.now a.slot _ c.head_of.ensures _ c.in_ok-n.was c.in_default.not-List)) refl
