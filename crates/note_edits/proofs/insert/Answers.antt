-- `insert` meets its contract: the refusal, or what the steps leave in the part of the memory that was lent to them.
use Rattle.answer.proofs.Opened.{raised}
use Rattle.answer.specs.Answers.{outcome}
use mathlib.Core.Path.{◌≡◌, sym, ap, subst, ◌∙◌}
use mathlib.Core.List.{List, []}
use Prim.Native.Nat.{ℕ}
use lib.Seq.{length-take-le}
use mir.Syntax.{w64}
use mir.ValLaws.{to_z-of_z}
use Rattle.plain.specs.Utf8.{decode}
use Rattle.plain.specs.Edit.{put_in}
use Rattle.edit_promise.specs.Turned.{text_in, Turned, Puts}
use Rattle.note_head.proofs.Own.{own-front}
use Rattle.edit_promise.proofs.Promise.{rest_part, own_room, insert-formed, insert-puts, insert-refused, insert-done}
use Rattle.note_edits.proofs.Steps.{never}
use Rattle.note_edits.proofs.insert.Goals as goal

pub slice_bounds-insert_own-end : goal.slice_bounds-insert_own-end
slice_bounds-insert_own-end c =
    let a = c.args in
    own_room a.m.now _ c.need-end.ensures (insert-formed a.m.now a.p a.piece.now (sym (ap outcome c.in_ok-insert_refusal.was) ∙ c.insert_refusal.ensures))

pub slice_bounds-insert_own-end-2 : goal.slice_bounds-insert_own-end-2
slice_bounds-insert_own-end-2 c =
    let a = c.args in
    sym (length-take-le _ a.m.now (own_room a.m.now _ c.need-end.ensures (insert-formed a.m.now a.p a.piece.now (sym (ap outcome c.in_ok-insert_refusal.was) ∙ c.insert_refusal.ensures))))

pub insert_own-requires : goal.insert_own-requires
insert_own-requires c =
    let a = c.args in
    subst (λ (l : List ℕ). Puts l a.p a.piece.now) (sym (own-front a.m.now _ c.need-end.ensures)) (insert-puts a.m.now a.p a.piece.now (sym (ap outcome c.in_ok-insert_refusal.was) ∙ c.insert_refusal.ensures))

pub returns-in_err-insert_refusal : goal.returns-in_err-insert_refusal
returns-in_err-insert_refusal c = rw (raised c.from_residual.ensures.1) (
    let a = c.args in
    insert-refused a.m.now a.p a.piece.now _ (sym (ap outcome c.in_err-insert_refusal.was) ∙ c.insert_refusal.ensures))

pub returns-in_err-insert_own : goal.returns-in_err-insert_own
returns-in_err-insert_own c = never _ c.insert_own.ensures.0 _ c.in_err-insert_own.was

pub returns : goal.returns
returns c =
    let a = c.args in
    let later = c.insert_own.new.m in
    let k = c.need-end.ensures in
    let o = own-front a.m.now _ k in
    insert-done a.m.now a.p a.piece.now (sym (ap outcome c.in_ok-insert_refusal.was) ∙ c.insert_refusal.ensures) later
    (subst (λ (l : List ℕ). Turned l (put_in a.p (decode a.piece.now) (text_in l)) later) o c.insert_own.ensures.1)
    (subst (λ (l : List ℕ). a.piece.now ≡ [] → later ≡ l) o c.insert_own.ensures.2)
    _ (rest_part a.m.now _ k later) _ _ c.breaks_of-before.ensures c.breaks_of.ensures _
    (to_z-of_z w64 c.difference.result (record { sfits = c.difference.type_inv }) ∙ c.difference.ensures)
