-- `past_both` meets its contract.
use Rattle.runs.proofs.Rules.{past_first, past-second}
use Rattle.runs.proofs.past_both.Goals as goal

pub returns-then-q-first : goal.returns-then-q-first
returns-then-q-first c = past_first c.args.first c.args.second c.args.q c.if-q-first.true

pub returns : goal.returns
returns c = past-second c.args.first c.args.second c.args.q c.if-q-first.false
