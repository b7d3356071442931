-- `same_info` meets its contract.
use borrow.Author.Tests.{ne_eqb, eq-eqb}
use Rattle.child_info.proofs.checks.same_info.Goals as goal

pub returns-then-a-b : goal.returns-then-a-b
returns-then-a-b c = rw (ne_eqb _ _ c.if-a-b.true)

pub returns-then-a-b-2 : goal.returns-then-a-b-2
returns-then-a-b-2 c = rw (eq-eqb _ _ c.if-a-b.false, ne_eqb _ _ c.if-a-b-2.true)

pub returns-then-a-b-3 : goal.returns-then-a-b-3
returns-then-a-b-3 c = rw (eq-eqb _ _ c.if-a-b.false, eq-eqb _ _ c.if-a-b-2.false, ne_eqb _ _ c.if-a-b-3.true)

pub returns : goal.returns
returns c = rw (eq-eqb _ _ c.if-a-b.false, eq-eqb _ _ c.if-a-b-2.false, eq-eqb _ _ c.if-a-b-3.false)
