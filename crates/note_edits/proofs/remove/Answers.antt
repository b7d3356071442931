-- `remove` meets its contract: the refusal, or what the steps leave in the part of the memory that was lent to them.
use Rattle.answer.proofs.Opened.{raised}
use Rattle.answer.specs.Answers.{outcome}
use mathlib.Core.Path.{◌≡◌, sym, ap, subst, ◌∙◌}
use mathlib.Core.List.{List}
use Prim.Native.Nat.{ℕ}
use lib.Seq.{length-take-le}
use mir.Syntax.{w64}
use mir.ValLaws.{to_z-of_z}
use Rattle.plain.specs.Edit.{cut_out}
use Rattle.edit_promise.specs.Turned.{text_in, Turned, Removes}
use Rattle.note_head.proofs.Own.{own-front}
use Rattle.edit_promise.proofs.Promise.{rest_part, own_room, remove-formed, remove-removes, remove-refused, remove-done}
use Rattle.note_edits.proofs.Steps.{never}
use Rattle.note_edits.proofs.remove.Goals as goal

pub slice_bounds-remove_own-end : goal.slice_bounds-remove_own-end
slice_bounds-remove_own-end c =
    let a = c.args in
    own_room a.m.now _ c.need-end.ensures (remove-formed a.m.now a.s a.e (sym (ap outcome c.in_ok-remove_refusal.was) ∙ c.remove_refusal.ensures))

pub slice_bounds-remove_own-end-2 : goal.slice_bounds-remove_own-end-2
slice_bounds-remove_own-end-2 c =
    let a = c.args in
    sym (length-take-le _ a.m.now (own_room a.m.now _ c.need-end.ensures (remove-formed a.m.now a.s a.e (sym (ap outcome c.in_ok-remove_refusal.was) ∙ c.remove_refusal.ensures))))

pub remove_own-requires : goal.remove_own-requires
remove_own-requires c =
    let a = c.args in
    subst (λ (l : List ℕ). Removes l a.s a.e) (sym (own-front a.m.now _ c.need-end.ensures)) (remove-removes a.m.now a.s a.e (sym (ap outcome c.in_ok-remove_refusal.was) ∙ c.remove_refusal.ensures))

pub returns-in_err-remove_refusal : goal.returns-in_err-remove_refusal
returns-in_err-remove_refusal c = rw (raised c.from_residual.ensures.1) (
    let a = c.args in
    remove-refused a.m.now a.s a.e _ (sym (ap outcome c.in_err-remove_refusal.was) ∙ c.remove_refusal.ensures))

pub returns-in_err-remove_own : goal.returns-in_err-remove_own
returns-in_err-remove_own c = never _ c.remove_own.ensures.0 _ c.in_err-remove_own.was

pub returns : goal.returns
returns c =
    let a = c.args in
    let later = c.remove_own.new.m in
    let k = c.need-end.ensures in
    let o = own-front a.m.now _ k in
    remove-done a.m.now a.s a.e (sym (ap outcome c.in_ok-remove_refusal.was) ∙ c.remove_refusal.ensures) later
    (subst (λ (l : List ℕ). Turned l (cut_out a.s a.e (text_in l)) later) o c.remove_own.ensures.1)
    (subst (λ (l : List ℕ). a.s ≡ a.e → later ≡ l) o c.remove_own.ensures.2)
    _ (rest_part a.m.now _ k later) _ _ c.breaks_of-before.ensures c.breaks_of.ensures _
    (to_z-of_z w64 c.difference.result (record { sfits = c.difference.type_inv }) ∙ c.difference.ensures)
