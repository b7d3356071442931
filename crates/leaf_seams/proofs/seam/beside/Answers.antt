-- `seam::beside` meets its contract: the cases of the choice.
use borrow.Author.Tests.{eq-eqb, ne_eqb, lt-ltb, le-ltb}
use Rattle.leaf_seams.proofs.seam.beside.Goals as goal

pub returns-then-l_split-eq0 : goal.returns-then-l_split-eq0
returns-then-l_split-eq0 c = simp (eq-eqb _ _ c.if-l_split-eq0.true)

pub returns-then-r_split-l_len : goal.returns-then-r_split-l_len
returns-then-r_split-l_len c = simp (ne_eqb _ _ c.if-l_split-eq0.false, eq-eqb _ _ c.if-r_split-l_len.true)

pub returns-then-r_len-l_len : goal.returns-then-r_len-l_len
returns-then-r_len-l_len c = simp (ne_eqb _ _ c.if-l_split-eq0.false, ne_eqb _ _ c.if-r_split-l_len.false, lt-ltb _ _ c.if-r_len-l_len.true)

pub returns : goal.returns
returns c = simp (ne_eqb _ _ c.if-l_split-eq0.false, ne_eqb _ _ c.if-r_split-l_len.false, le-ltb _ _ c.if-r_len-l_len.false)
