-- The difference of two numbers of 32 bits, as the machine reads and writes it, has 64 bits and is the one on paper.
use mathlib.Core.Path.{◌≡◌, sym, ap, subst, ◌∙◌}
use mathlib.Core.Bool.{Bool, true, false, cond}
use Prim.Native.Nat.{ℕ, zero, suc, ◌-◌, ◌^◌, ◌<◌}
use native.Mathlib.Omega.{arith}
use lib.Dec.{ltb}
use lib.IntN.{ℤ, pos, negsuc, ◌-ℤ◌}
use lib.Signed.{mag}
use mir.Syntax.{w32, w64}
use mir.Val.{Fits, SFits, to_z, of_z}
use mir.ValLaws.{to_z_pos, to_z-of_z}
use Rattle.plain.specs.Edit.{minus}

mag-minus : (a b bound : ℕ) → a < bound → b < bound → mag (minus a b) < bound
mag-minus a zero bound h k = omega arith
mag-minus a (suc b) bound h k = by (ltb a (suc b))
  where
    by : (t : Bool) → mag (cond t (negsuc (suc b - suc a)) (pos (a - suc b))) < bound
    by true = omega arith
    by false = omega arith

module _ (a b : ℕ) (fa : Fits w32 a) (fb : Fits w32 b) where
  read : (to_z w64 a -ℤ to_z w64 b) ≡ minus a b
  read =
      ap (λ (z : ℤ). z -ℤ to_z w64 b) (to_z_pos w64 a (omega (arith, fa.fits)))
      ∙ ap (λ (z : ℤ). pos a -ℤ z) (to_z_pos w64 b (omega (arith, fb.fits)))

  pub minus-fits : SFits w64 (to_z w64 a -ℤ to_z w64 b)
  minus-fits = subst (SFits w64) (sym read) (record { sfits = mag-minus a b (2 ^ 63) (omega (arith, fa.fits)) (omega (arith, fb.fits)) })

  pub minus_is : to_z w64 (of_z w64 (to_z w64 a -ℤ to_z w64 b)) ≡ minus a b
  minus_is = to_z-of_z w64 (to_z w64 a -ℤ to_z w64 b) minus-fits ∙ read
