-- `window::owes` meets its contract: the code is the definition, case by case.
use mathlib.Core.Path.{sym, ap}
use mathlib.Core.Bool.{Bool}
use Rattle.utf8.specs.Window.{owed}
use Rattle.utf8.proofs.window.owes.Goals as goal

pub returns-then-far : goal.returns-then-far
unfolding owed
returns-then-far c = let a = c.args in ap (λ (t : Bool). owed t a.x a.y a.z) (sym c.if-far.true)

pub returns : goal.returns
unfolding owed
returns c = let a = c.args in ap (λ (t : Bool). owed t a.x a.y a.z) (sym c.if-far.false)
