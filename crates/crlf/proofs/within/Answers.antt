-- `crlf::within` meets its contract.
use mathlib.Core.Path.{refl}
use Rattle.crlf.proofs.Laws.{at-past, at_in}
use Rattle.crlf.proofs.within.Goals as goal

pub returns-then-text-byte_idx : goal.returns-then-text-byte_idx
returns-then-text-byte_idx c = at-past _ _ _ c.if-text-byte_idx.true

pub returns : goal.returns
returns c = at_in _ _ _ _ c.if-text-byte_idx.false refl
