-- `list_info` meets its contract: the sum of the entries that are there, and then whether they are too many.
use Rattle.nodes.proofs.Rules.{sum-refused, sum-long, sum_is}
use Rattle.nodes.proofs.list_info.Goals as goal

pub returns-in_default : goal.returns-in_default
returns-in_default c =
    let i = c.narrow-all in
    let s = c.sum_of in
    sum-refused c.args.list s.result s.ensures.0 i.result i.ensures _ c.in_default.is

pub returns-then-list-gt-MAX_CHILDREN : goal.returns-then-list-gt-MAX_CHILDREN
returns-then-list-gt-MAX_CHILDREN c =
    let i = c.narrow-all in
    let s = c.sum_of in
    sum-long c.args.list s.result s.ensures.0 i.result i.ensures _ c.in-Ok.is c.if-list-gt-MAX_CHILDREN.true

pub returns : goal.returns
returns c =
    let i = c.narrow-all in
    let s = c.sum_of in
    sum_is c.args.list s.result s.ensures.0 i.result i.ensures _ c.in-Ok.is c.if-list-gt-MAX_CHILDREN.false
