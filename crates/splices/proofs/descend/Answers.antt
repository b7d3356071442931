-- `descend` meets its contract: from the root down.
use mathlib.Core.Path.{refl}
use Rattle.splices.proofs.Rules.{descend-done}
use Rattle.splices.proofs.descend.Goals as goal

pub returns : goal.returns
returns c =
    let a = c.args in
    descend-done a.m.now a.by a.at a.part a.piece.now c.root-kid.result _ _ _ _ c.root-kid.ensures c.height-h.ensures refl c.edit_at.ensures
