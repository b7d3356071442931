-- `insert_own` meets its contract: nothing to do for an empty piece; else inside one leaf, or where the side asks.
use mathlib.Core.Path.{refl, sym, ap, subst}
use mathlib.Core.Logic.{inr}
use mathlib.Core.List.{List}
use Prim.Native.Nat.{ℕ}
use lib.ListN.{length}
use Rattle.plain.specs.Utf8.{decode}
use Rattle.plain.specs.Edit.{put_in}
use Rattle.edit_promise.specs.Turned.{Puts}
use Rattle.note_edits.proofs.Steps.{put-none, tried-never, was-done, was-not, inside-put, turned-again}
use Rattle.note_edits.proofs.insert_own.Goals as goal

pub returns-then-piece-eq0 : goal.returns-then-piece-eq0
returns-then-piece-eq0 c = (refl, put-none c.args.m.now c.args.p c.args.piece.now c.requires c.if-piece-eq0.true, λ e. refl)

pub inside-requires : goal.inside-requires
inside-requires c = (c.requires, inr refl)

pub returns-then-done : goal.returns-then-done
returns-then-done c = (
  refl,
  inside-put c.args.m.now c.args.p c.args.piece.now _ (was-done c.args.m.now _ _ _ c.inside.ensures _ c.in_ok-done.was c.if-done.true),
  λ e. absurd (c.if-piece-eq0.false (ap (λ (l : List ℕ). length l) e)),
)

pub insert_beside-requires : goal.insert_beside-requires
insert_beside-requires c =
    subst (λ (l : List ℕ). Puts l c.args.p c.args.piece.now) (sym (was-not c.args.m.now _ _ _ c.inside.ensures _ c.in_ok-done.was c.if-done.false)) c.requires

pub returns-in_err-done : goal.returns-in_err-done
returns-in_err-done c = tried-never c.args.m.now _ _ _ c.inside.ensures _ c.in_err-done.was

pub returns : goal.returns
returns c = (
  c.insert_beside.ensures.0,
  turned-again c.args.m.now _ (was-not c.args.m.now _ _ _ c.inside.ensures _ c.in_ok-done.was c.if-done.false) (λ cs. put_in c.args.p (decode c.args.piece.now) cs) _ c.insert_beside.ensures.1,
  λ e. absurd (c.if-piece-eq0.false (ap (λ (l : List ℕ). length l) e)),
)
