-- `remove_own` meets its contract: nothing to do for an empty part; else inside one leaf, or leaf by leaf.
use mathlib.Core.Path.{refl, sym, subst}
use mathlib.Core.Logic.{inl}
use mathlib.Core.List.{List}
use Prim.Native.Nat.{ℕ}
use Rattle.plain.specs.Edit.{cut_out}
use Rattle.edit_promise.specs.Turned.{Removes}
use Rattle.edit_promise.proofs.Removal.{strict, remove-none}
use Rattle.note_edits.proofs.Steps.{tried-never, was-done, was-not, inside-cut, cut-puts, turned-again}
use Rattle.note_edits.proofs.remove_own.Goals as goal

pub returns-then-s-e : goal.returns-then-s-e
returns-then-s-e c = (refl, remove-none c.args.m.now c.args.s c.args.e c.requires c.if-s-e.true, λ e. refl)

pub inside-requires : goal.inside-requires
inside-requires c = (cut-puts c.args.m.now c.args.s c.args.e c.requires, inl refl)

pub returns-then-done : goal.returns-then-done
returns-then-done c = (
  refl,
  inside-cut c.args.m.now c.args.s c.args.e c.requires.low _ (was-done c.args.m.now _ _ _ c.inside.ensures _ c.in_ok-done.was c.if-done.true),
  λ e. absurd (c.if-s-e.false e),
)

pub remove_over-requires : goal.remove_over-requires
remove_over-requires c = (
  subst (λ (l : List ℕ). Removes l c.args.s c.args.e) (sym (was-not c.args.m.now _ _ _ c.inside.ensures _ c.in_ok-done.was c.if-done.false)) c.requires,
  strict c.args.s c.args.e c.requires.low c.if-s-e.false,
)

pub returns-in_err-done : goal.returns-in_err-done
returns-in_err-done c = tried-never c.args.m.now _ _ _ c.inside.ensures _ c.in_err-done.was

pub returns : goal.returns
returns c = (
  c.remove_over.ensures.0,
  turned-again c.args.m.now _ (was-not c.args.m.now _ _ _ c.inside.ensures _ c.in_ok-done.was c.if-done.false) (λ cs. cut_out c.args.s c.args.e cs) _ c.remove_over.ensures.1,
  λ e. absurd (c.if-s-e.false e),
)
