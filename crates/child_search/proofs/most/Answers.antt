-- `most` meets its contract.
use Rattle.child_search.proofs.most.Goals as goal

pub returns-in-Utf16 : goal.returns-in-Utf16
returns-in-Utf16 c = rw c.in-Utf16.is

pub returns-in-Breaks : goal.returns-in-Breaks
returns-in-Breaks c = rw c.in-Breaks.is
