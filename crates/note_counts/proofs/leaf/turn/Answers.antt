-- `turn` meets its contract.
use Rattle.note_counts.proofs.InLeaf.{turned-in}
use Rattle.note_counts.proofs.leaf.turn.Goals as goal

pub returns : goal.returns
returns c = let a = c.args in (turned-in a.text.now c.requires.0 a.from a.to a.idx _ _ c.byte_of-at.ensures.0 c.count_to.ensures.0, c.count_to.ensures.1)
