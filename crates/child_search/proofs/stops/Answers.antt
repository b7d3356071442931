-- `stops` meets its contract.
use Rattle.child_search.proofs.stops.Goals as goal

pub returns-in-Bytes : goal.returns-in-Bytes
returns-in-Bytes c = rw c.in-Bytes.is

pub returns-in-Chars : goal.returns-in-Chars
returns-in-Chars c = rw c.in-Chars.is

pub returns-in-Utf16 : goal.returns-in-Utf16
returns-in-Utf16 c = rw c.in-Utf16.is

pub returns-in-Breaks : goal.returns-in-Breaks
returns-in-Breaks c = rw c.in-Breaks.is

pub returns-in-CharEnds : goal.returns-in-CharEnds
returns-in-CharEnds c = rw c.in-CharEnds.is
