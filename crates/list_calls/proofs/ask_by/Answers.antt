-- `ask_by` meets its contract: the call is the one that stands at its number.
use Rattle.list_calls.proofs.Numbers.{no-call-0, no-call-above, by_number}
use Rattle.list_calls.proofs.ask_by.Goals as goal

pub returns-then-call-eq0 : goal.returns-then-call-eq0
returns-then-call-eq0 c = no-call-0 _ _ _ _ _ _ _ c.if-call-eq0.true

pub returns-then-call-gt22 : goal.returns-then-call-gt22
returns-then-call-gt22 c = no-call-above _ _ _ _ _ _ _ c.if-call-eq0.false c.if-call-gt22.true

pub returns : goal.returns
returns c = by_number _ _ _ _ _ _ _ _ _ _ c.if-call-eq0.false c.if-call-gt22.false c.call_of.ensures c.ask.ensures
