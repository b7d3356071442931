-- `difference` meets its contract: both numbers fit, and so does their difference.
use Rattle.answer.proofs.Minus.{minus-fits, minus_is}
use Rattle.answer.proofs.difference.Goals as goal

pub overflow_sub-result : goal.overflow_sub-result
overflow_sub-result c = minus-fits c.args.after c.args.before c.ranges.after c.ranges.before

pub returns : goal.returns
returns c = minus_is c.args.after c.args.before c.ranges.after c.ranges.before
