-- `window::outside` meets its contract: the code is the definition, case by case.
use mathlib.Core.Path.{sym, ap}
use mathlib.Core.Bool.{Bool}
use Rattle.utf8.specs.Window.{out_of}
use Rattle.utf8.proofs.window.outside.Goals as goal

pub returns-then-far : goal.returns-then-far
unfolding out_of
returns-then-far c = let a = c.args in ap (λ (t : Bool). out_of t a.z a.b) (sym c.if-far.true)

pub returns : goal.returns
unfolding out_of
returns c = let a = c.args in ap (λ (t : Bool). out_of t a.z a.b) (sym c.if-far.false)
