-- `splice_inside` meets its contract: what became of the root put into the head, and whether anything did.
use mathlib.Core.Path.{refl}
use Rattle.answer.proofs.Opened.{raised}
use Rattle.splices.proofs.Rules.{made_as, inside-refused, inside-told}
use Rattle.splices.proofs.splice_inside.Goals as goal

pub returns-in_err-made : goal.returns-in_err-made
returns-in_err-made c = rw (raised c.from_residual.ensures.1) (
    let a = c.args in
    inside-refused a.m.now a.at a.k a.piece.now _ _ (made_as _ _ _ _ c.in_err-made.was c.descend.ensures) _ _ (record { answered = refl; memory = refl }) _ refl)

pub returns-in_err-put_root : goal.returns-in_err-put_root
returns-in_err-put_root c = rw (raised c.from_residual-in_err-put_root.ensures.1) (
    let a = c.args in
    inside-refused a.m.now a.at a.k a.piece.now _ _ (made_as _ _ _ _ c.in_ok-made.was c.descend.ensures) _ _ c.put_root.ensures _ c.in_err-put_root.was)

pub returns : goal.returns
returns c =
    let a = c.args in
    inside-told a.m.now a.at a.k a.piece.now _ _ (made_as _ _ _ _ c.in_ok-made.was c.descend.ensures) _ _ c.put_root.ensures c.in_ok-put_root.was _ c.lay_inside.ensures
