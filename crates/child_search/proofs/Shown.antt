-- The sums and searches at work, computed on short lists.
use mathlib.Core.Path.{◌≡◌, refl}
use mathlib.Core.List.{[]}
use Prim.Native.Nat.{ℕ}
use Rattle.plain.specs.Outcome.{Outcome.value, Outcome.refused}
use Rattle.text_info.specs.declared.TextSum.{TextSum}
use Rattle.node_children.specs.Kids.{list_of}
use Rattle.node_children.proofs.Shown.{three}
use Rattle.child_search.specs.declared.Measure.TheVariants.{Bytes, Chars, Utf16, Breaks}
use Rattle.child_search.specs.Sought.{combined, searched, searched_range}

-- bytes, chars, surrogate pairs and line breaks
abbrev sums : ℕ → ℕ → ℕ → ℕ → TextSum
sums b c u l = record { bytes = b; chars = c; utf16_surrogates = u; line_breaks = l }

-- an index at a seam is in the right child, a line break that ends there in the left one, and the end in the last
pub searches :
    (searched (list_of three) Chars 2 ≡ value (1, sums 5 2 1 1)) × (searched (list_of three) Bytes 5 ≡ value (1, sums 5 2 1 1))
    × (searched (list_of three) Utf16 2 ≡ value (0, sums 0 0 0 0)) × (searched (list_of three) Breaks 1 ≡ value (0, sums 0 0 0 0))
    × (searched (list_of three) Chars 6 ≡ value (2, sums 10 4 2 2)) × (searched (list_of three) Chars 7 ≡ refused 3)
    × (searched (list_of three) Breaks 4 ≡ value (2, sums 10 4 2 2)) × (searched (list_of three) Breaks 5 ≡ refused 3)
    × (searched (list_of []) Chars 1 ≡ refused 12) × (combined (list_of three) ≡ value (sums 15 6 3 3))
unfolding searched combined list_of
searches = (refl, refl, refl, refl, refl, refl, refl, refl, refl, refl)

-- a range that begins and ends at seams: the end's child is the left one, but no earlier than the start's
pub ranges :
    (searched_range (list_of three) 2 4 ≡ value ((1, 2), (1, 2))) × (searched_range (list_of three) 1 5 ≡ value ((0, 0), (2, 4)))
    × (searched_range (list_of three) 2 2 ≡ value ((1, 2), (1, 2))) × (searched_range (list_of three) 3 2 ≡ refused 3)
unfolding searched_range list_of
ranges = (refl, refl, refl, refl)
