-- `at_lf` meets its contract: the leaf from the place on begins with the char there.
use Rattle.edit_promise.proofs.Looks.{lf-none, lf-seen}
use Rattle.note_edits.proofs.at_lf.Goals as goal

pub returns-then-t-eq0 : goal.returns-then-t-eq0
returns-then-t-eq0 c =
    lf-none c.args.m.now c.requires.0 c.args.p c.requires.1 _ c.from_char-t.ensures.0 c.if-t-eq0.true

pub returns : goal.returns
returns c =
    lf-seen c.args.m.now c.requires.0 c.args.p c.requires.1 _ c.from_char-t.ensures.0 c.if-t-eq0.false
