-- `rest` meets its contract.
use native.Mathlib.Omega.{arith}
use Rattle.tree_search.proofs.rest.Goals as goal

pub returns-in-Bytes : goal.returns-in-Bytes
returns-in-Bytes c = rw c.in-Bytes.is c.less.ensures

pub returns-in-Chars : goal.returns-in-Chars
returns-in-Chars c = rw c.in-Chars.is c.less-in-Chars.ensures

pub returns-in-Utf16 : goal.returns-in-Utf16
returns-in-Utf16 c = rw c.in-Utf16.is (omega (arith, c.less-in-Utf16-2.ensures, c.less-in-Utf16.ensures))

pub returns-in-Breaks : goal.returns-in-Breaks
returns-in-Breaks c = rw c.in-Breaks.is c.less-in-Breaks.ensures

pub returns-in-CharEnds : goal.returns-in-CharEnds
returns-in-CharEnds c = rw c.in-CharEnds.is c.less-in-CharEnds.ensures
