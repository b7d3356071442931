-- `inside` meets its contract, by the law of the call below.
use Rattle.note_edits.proofs.Steps.{inside-tried}
use Rattle.note_edits.proofs.inside.Goals as goal

pub returns : goal.returns
returns c = inside-tried c.args.m.now c.args.p c.args.k c.args.piece.now c.requires.0 c.requires.1 _ _ c.splice_inside.ensures
