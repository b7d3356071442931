-- `splice` meets its contract: down from the root, and what became of it put into the head.
use mathlib.Core.Path.{refl}
use Rattle.answer.proofs.Opened.{raised}
use Rattle.splices.proofs.Rules.{made_as, splice-done}
use Rattle.splices.proofs.splice.Goals as goal

pub returns-in_err-made : goal.returns-in_err-made
returns-in_err-made c = rw (raised c.from_residual.ensures.1) (
    let a = c.args in
    splice-done a.m.now a.by a.at a.part a.piece.now _ _ _ _ (made_as _ _ _ _ c.in_err-made.was c.descend.ensures) (record { answered = refl; memory = refl }))

pub returns : goal.returns
returns c =
    let a = c.args in
    splice-done a.m.now a.by a.at a.part a.piece.now _ _ _ _ (made_as _ _ _ _ c.in_ok-made.was c.descend.ensures) c.put_root.ensures
