-- `follows` meets its contract.
use Rattle.tree_check.proofs.Ends.{follows-told, follows-cr, follows-other}
use Rattle.tree_check.proofs.texts.follows.Goals as goal

pub returns-then-not-tells : goal.returns-then-not-tells
returns-then-not-tells c = follows-told _ c.tells.result c.tells.ensures c.args.cr c.args.lf c.if-not-tells.true-raw

pub returns-then-cr : goal.returns-then-cr
returns-then-cr c = follows-cr _ c.tells.result c.tells.ensures c.args.cr c.args.lf c.if-not-tells.false-raw c.if-cr.true

pub returns : goal.returns
returns c = follows-other _ c.tells.result c.tells.ensures c.args.cr c.args.lf c.if-not-tells.false-raw c.if-cr.false
