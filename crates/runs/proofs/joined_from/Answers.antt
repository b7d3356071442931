-- `joined_from` meets its contract: below the insertion place, in the piece, and behind it.
use mathlib.Core.Logic.{inl, inr}
use Rattle.note_head.proofs.Part.{part-of-part}
use Rattle.runs.proofs.Rules.{join-below, join-in, join-behind}
use Rattle.runs.proofs.joined_from.Goals as goal

pub returns-then-q-p : goal.returns-then-q-p
returns-then-q-p c = let a = c.args in (join-below a.m.now a.piece.now a.p a.q c.if-q-p.true c.from_char.result.now _ c.from_char.ensures.0 c.front.ensures.0, inl (part-of-part _ _ _ c.front.ensures.1 c.from_char.ensures.1))

pub returns-then-i-k : goal.returns-then-i-k
returns-then-i-k c = let a = c.args in (join-in a.m.now a.piece.now a.p a.q c.if-q-p.false _ c.count-k.ensures c.if-i-k.true _ c.byte_in.ensures.0 _ c.behind.ensures.0, inr c.behind.ensures.1)

pub returns : goal.returns
returns c = let a = c.args in (join-behind a.m.now a.piece.now a.p a.q c.if-q-p.false _ c.count-k.ensures c.if-i-k.false _ c.from_char-2.ensures.0, inl c.from_char-2.ensures.1)
