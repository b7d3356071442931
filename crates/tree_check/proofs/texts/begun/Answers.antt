-- `begun` meets its contract.
use mathlib.Core.Path.{sym, ap}
use mathlib.Core.Bool.{Bool, cond}
use borrow.Author.Tests.{eq-eqb, ne_eqb}
use Rattle.tree_check.proofs.texts.begun.Goals as goal

pub returns-then-i-eq0 : goal.returns-then-i-eq0
returns-then-i-eq0 c = let a = c.args in sym (ap (λ (t : Bool). cond t a.first a.lf) (eq-eqb a.i 0 c.if-i-eq0.true))

pub returns : goal.returns
returns c = let a = c.args in sym (ap (λ (t : Bool). cond t a.first a.lf) (ne_eqb a.i 0 c.if-i-eq0.false))
