-- `byte_of` meets its contract.
use native.Mathlib.Omega.{arith}
use Rattle.note_counts.proofs.InLeaf.{chars-byte, units-byte, lines-byte}
use Rattle.note_counts.proofs.leaf.byte_of.Goals as goal

pub returns-in-Bytes : goal.returns-in-Bytes
returns-in-Bytes c = (rw c.in-Bytes.is c.floor.ensures.0, c.floor.ensures.1)

pub returns-in-Chars : goal.returns-in-Chars
returns-in-Chars c = let a = c.args in (rw c.in-Chars.is c.to_byte_idx.ensures, omega (arith, c.to_byte_idx.ensures, chars-byte a.text.now a.idx))

pub returns-in-Units : goal.returns-in-Units
returns-in-Units c = let a = c.args in (rw c.in-Units.is c.to_byte_idx-in-Units.ensures, omega (arith, c.to_byte_idx-in-Units.ensures, units-byte a.text.now a.idx))

pub returns-in-Lines : goal.returns-in-Lines
returns-in-Lines c = let a = c.args in (rw c.in-Lines.is c.to_byte_idx-in-Lines.ensures, omega (arith, c.to_byte_idx-in-Lines.ensures, lines-byte a.text.now a.idx))
