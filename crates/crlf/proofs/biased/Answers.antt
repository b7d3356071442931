-- `crlf::biased` meets its contract: the four cases of the biased side.
use borrow.Author.Tests.{lt-ltb, le-ltb}
use Rattle.crlf.proofs.biased.Goals as goal

pub returns-then-prev-gt0 : goal.returns-then-prev-gt0
returns-then-prev-gt0 c = simp (c.if-bias_left.true, lt-ltb _ _ c.if-prev-gt0.true)

pub returns-then-bias_left : goal.returns-then-bias_left
returns-then-bias_left c = simp (c.if-bias_left.true, le-ltb _ _ c.if-prev-gt0.false)

pub returns-then-next-end : goal.returns-then-next-end
returns-then-next-end c = simp (c.if-bias_left.false, lt-ltb _ _ c.if-next-end.true)

pub returns : goal.returns
returns c = simp (c.if-bias_left.false, le-ltb _ _ c.if-next-end.false)
