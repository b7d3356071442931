-- `insert_beside` meets its contract, by the law of the call below.
use Rattle.note_edits.proofs.Steps.{put-turned}
use Rattle.note_edits.proofs.insert_beside.Goals as goal

pub returns : goal.returns
returns c =
    put-turned c.args.m.now c.args.p c.args.piece.now c.requires _ c.side-by.ensures _ _ c.put_in.ensures
