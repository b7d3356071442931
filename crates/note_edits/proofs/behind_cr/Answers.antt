-- `behind_cr` meets its contract: the leaf from the char before the place on begins with that char.
use Rattle.edit_promise.proofs.Looks.{cr-first, cr-filled, cr-seen}
use Rattle.note_edits.proofs.behind_cr.Goals as goal

pub returns-then-p-eq0 : goal.returns-then-p-eq0
returns-then-p-eq0 c = cr-first c.args.m.now c.requires.0 c.args.p c.requires.1 c.args.m.now c.if-p-eq0.true

pub returns-then-t-eq0 : goal.returns-then-t-eq0
returns-then-t-eq0 c =
    cr-filled c.args.m.now c.requires.0 c.args.p c.requires.1 _ c.if-p-eq0.false c.from_char-t.ensures.0 c.if-t-eq0.true

pub returns : goal.returns
returns c =
    cr-seen c.args.m.now c.requires.0 c.args.p c.requires.1 _ c.if-p-eq0.false c.from_char-t.ensures.0
