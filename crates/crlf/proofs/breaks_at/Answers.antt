-- `crlf::breaks_at` meets its contract: the three cases of a break.
use mathlib.Core.Path.{sym, ◌∙◌}
use Rattle.crlf.proofs.Laws.{break-0, break-end, break-in}
use Rattle.crlf.proofs.breaks_at.Goals as goal

pub returns-then-byte_idx-eq0 : goal.returns-then-byte_idx-eq0
returns-then-byte_idx-eq0 c = sym (break-0 _ _ c.if-byte_idx-eq0.true)

pub returns-then-byte_idx-text : goal.returns-then-byte_idx-text
returns-then-byte_idx-text c = sym (break-end _ _ c.if-byte_idx-text.true)

pub returns : goal.returns
returns c = c.parts.ensures ∙ sym (break-in _ _ c.if-byte_idx-eq0.false c.if-byte_idx-text.false)
