-- `listing_lines::put_code` meets its contract, in each of the two cases.
use borrow.Author.Tests.{eq-eqb, ne_eqb}
use borrow.Author.Rules.{rules}
use Rattle.listing_lines.proofs.put_code.Goals as goal

pub returns-then-code-eq0 : goal.returns-then-code-eq0
returns-then-code-eq0 c = (search rules, rw (eq-eqb _ 0 c.if-code-eq0.true) c.put.ensures)

pub returns : goal.returns
returns c = (search rules, rw (ne_eqb _ 0 c.if-code-eq0.false) c.put_counted.ensures.1)
