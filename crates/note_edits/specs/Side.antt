-- The search that an insertion at a place goes by.
use Rattle.std.specs.Prelude.{cond, List, ℕ, take}
use Rattle.plain.specs.Count.{cr_last}
use Rattle.child_search.specs.declared.Measure.{Measure}
use Rattle.child_search.specs.declared.Measure.TheVariants.{Chars, CharEnds}

-- that for the leaf with the CR before the place, if there is one, else that for the leaf with the char at it
abbrev pub side_of : List ℕ → ℕ → Measure
side_of cs p = cond (cr_last (take p cs)) CharEnds Chars
