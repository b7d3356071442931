-- `most` meets its contract: the root stores the counts of the note.
use Rattle.note_counts.proofs.InNote.{most-is}
use Rattle.note_counts.proofs.most.Goals as goal

pub returns : goal.returns
returns c = most-is c.args.m.now c.requires c.args.by _ _ c.root-root.ensures c.most_in.ensures
