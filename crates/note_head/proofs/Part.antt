-- A part of a part is a part.
use mathlib.Core.Path.{◌∙◌}
use mathlib.Core.List.{List}
use Prim.Native.Nat.{ℕ, ◌+◌}
use native.Mathlib.Omega.{arith}
use denote.Ref.{Bor}
use Rattle.note_head.specs.Part.{PartOf}

pub part-of-part : (r s m : Bor (List ℕ)) → PartOf r s → PartOf s m → PartOf r m
part-of-part r s m a b = record { from = b.from + a.from; block = a.block ∙ b.block; offset = omega (arith, a.offset, b.offset); inside = omega (arith, a.inside, b.inside) }
