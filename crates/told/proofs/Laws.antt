-- What is told does not depend on how a value is read.
use mathlib.Core.Path.{◌≡◌, refl, subst}
use Prim.Native.Nat.{ℕ}
use Rattle.plain.specs.Outcome.{Outcome, Outcome.value, Outcome.refused, mapped}
use Rattle.told.specs.Told.{code, Told}

-- what was told of an answer is told of what the answer says
pub told : (said o : Outcome ℕ) (out after r : ℕ) → said ≡ o → Told said out r after → Told o out r after
told said o out after r e t = subst (λ (x : Outcome ℕ). Told x out r after) e t

-- a value that is read otherwise has the same code
pub mapped-code : {A B : Type 0} (f : A → B) (o : Outcome A) → code (mapped f o) ≡ code o
unfolding code
mapped-code f (value a) = refl
mapped-code f (refused n) = refl
