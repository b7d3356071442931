-- `least_root` meets its contract.
use Rattle.memory.proofs.Tests.{least-leaf, least-list}
use Rattle.memory.proofs.least_root.Goals as goal

pub returns-then-height-eq0 : goal.returns-then-height-eq0
returns-then-height-eq0 c = least-leaf c.args.height c.if-height-eq0.true

pub returns : goal.returns
returns c = least-list c.args.height c.if-height-eq0.false
