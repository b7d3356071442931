-- `chars::is_boundary` meets its contract: 0, a byte inside, or the end.
use mathlib.Core.Path.{sym, ◌∙◌}
use Rattle.plain.proofs.Place.{boundary-0, boundary-in, boundary-out}
use Rattle.str_indices.proofs.chars.is_boundary.Goals as goal

pub returns-then-byte_idx-eq0 : goal.returns-then-byte_idx-eq0
returns-then-byte_idx-eq0 c = sym (boundary-0 _ _ c.if-byte_idx-eq0.true)

pub returns-then-byte_idx-text : goal.returns-then-byte_idx-text
returns-then-byte_idx-text c = c.starts.ensures ∙ sym (boundary-in _ _ c.if-byte_idx-eq0.false c.if-byte_idx-text.true)

pub returns : goal.returns
returns c = sym (boundary-out _ _ c.if-byte_idx-eq0.false c.if-byte_idx-text.false)
