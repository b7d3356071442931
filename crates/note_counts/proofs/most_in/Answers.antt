-- `most_in` meets its contract.
use mathlib.Core.Path.{◌≡◌}
use Prim.Native.Nat.{◌+◌}
use native.Mathlib.Omega.{arith}
use Rattle.note_counts.proofs.most_in.Goals as goal

pub returns-in-Units : goal.returns-in-Units
returns-in-Units c = let a = c.args in let e : c.wide-in-Units.result + c.wide-in-Units-2.result ≡ a.info.chars + a.info.utf16_surrogates = omega (arith, c.wide-in-Units.ensures.0, c.wide-in-Units-2.ensures.0) in rw c.in-Units.is e

pub returns-in-Lines : goal.returns-in-Lines
returns-in-Lines c = let a = c.args in let e : c.wide-in-Lines.result + 1 ≡ a.info.line_breaks + 1 = omega (arith, c.wide-in-Lines.ensures.0) in rw c.in-Lines.is e
