-- `edit_part` meets its contract, by the two kinds of parts.
use Rattle.descent.proofs.Rules.{part_bytes, part-inside}
use Rattle.descent.proofs.edit_part.Goals as goal

pub returns-in-Bytes : goal.returns-in-Bytes
returns-in-Bytes c = let a = c.args in part_bytes a.m.now a.slot a.at a.part a.piece.now _ _ _ _ c.in-Bytes.is c.leaf_step.ensures

pub returns-in-Inside : goal.returns-in-Inside
returns-in-Inside c = let a = c.args in part-inside a.m.now a.slot a.at a.part a.piece.now _ _ _ c.in-Inside.is c.edit_inside.ensures
