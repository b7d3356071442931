-- `became` meets its contract.
use Rattle.mend_step.proofs.Rules.{few, enough}
use Rattle.mend_step.proofs.became.Goals as goal

pub returns-then-n-lt-MIN_LEN : goal.returns-then-n-lt-MIN_LEN
returns-then-n-lt-MIN_LEN c = few c.args.n c.args.info c.if-n-lt-MIN_LEN.true

pub returns-else-n-lt-MIN_LEN : goal.returns-else-n-lt-MIN_LEN
returns-else-n-lt-MIN_LEN c = enough c.args.n c.args.info c.if-n-lt-MIN_LEN.false
