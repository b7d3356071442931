-- Listings by computation: document 01's example, chars of several bytes, and journals that are empty, cut, and bad.
use mathlib.Core.Path.{◌≡◌, refl}
use mathlib.Core.List.{List, [], ◌∷◌, ◌++◌}
use Prim.Native.Nat.{ℕ}
use Rattle.plain.specs.Chars.{encode}
use Rattle.plain.specs.Utf8.{valid_utf8, decode}
use Rattle.plain.specs.Count.{breaks}
use Rattle.plain.specs.Place.{total, unit_width}
use Rattle.plain_calls.specs.Marks.{moved_to}
use Rattle.plain_journal.specs.Listing.{listing}

-- 01 0006 00000000 610D, 03 0004 00000002, 01 0005 00000002 0A, 02 0008 00000009 00000009
abbrev input : List ℕ
input = 1 ∷ 0 ∷ 6 ∷ 0 ∷ 0 ∷ 0 ∷ 0 ∷ 97 ∷ 13 ∷ 3 ∷ 0 ∷ 4 ∷ 0 ∷ 0 ∷ 0 ∷ 2 ∷ 1 ∷ 0 ∷ 5 ∷ 0 ∷ 0 ∷ 0 ∷ 2 ∷ 10 ∷ 2 ∷ 0 ∷ 8 ∷ 0 ∷ 0 ∷ 0 ∷ 9 ∷ 0 ∷ 0 ∷ 0 ∷ 9 ∷ []

-- "1 ok", "2 ok", "3 ok", "4 refused 3", "bytes 3 chars 3 utf16 3 lines 2", "mark 0 place 3 line 1", each with a line end
abbrev output : List ℕ
output = 49 ∷ 32 ∷ 111 ∷ 107 ∷ 10 ∷ 50 ∷ 32 ∷ 111 ∷ 107 ∷ 10 ∷ 51 ∷ 32 ∷ 111 ∷ 107 ∷ 10 ∷ 52 ∷ 32 ∷ 114 ∷ 101 ∷ 102 ∷ 117 ∷ 115 ∷ 101 ∷ 100 ∷ 32 ∷ 51 ∷ 10 ∷ 98 ∷ 121 ∷ 116 ∷ 101 ∷ 115 ∷ 32 ∷ 51 ∷ 32 ∷ 99 ∷ 104 ∷ 97 ∷ 114 ∷ 115 ∷ 32 ∷ 51 ∷ 32 ∷ 117 ∷ 116 ∷ 102 ∷ 49 ∷ 54 ∷ 32 ∷ 51 ∷ 32 ∷ 108 ∷ 105 ∷ 110 ∷ 101 ∷ 115 ∷ 32 ∷ 50 ∷ 10 ∷ 109 ∷ 97 ∷ 114 ∷ 107 ∷ 32 ∷ 48 ∷ 32 ∷ 112 ∷ 108 ∷ 97 ∷ 99 ∷ 101 ∷ 32 ∷ 51 ∷ 32 ∷ 108 ∷ 105 ∷ 110 ∷ 101 ∷ 32 ∷ 49 ∷ 10 ∷ []

-- THEOREM: document 01's example.
pub example : listing input ≡ output
unfolding listing valid_utf8 encode decode total unit_width breaks moved_to
example = refl

-- chars of two and of four bytes, "1 ok", "bytes 6 chars 2 utf16 3 lines 1"
pub wide : listing (1 ∷ 0 ∷ 10 ∷ 0 ∷ 0 ∷ 0 ∷ 0 ∷ 195 ∷ 169 ∷ 240 ∷ 159 ∷ 152 ∷ 128 ∷ []) ≡ 49 ∷ 32 ∷ 111 ∷ 107 ∷ 10 ∷ 98 ∷ 121 ∷ 116 ∷ 101 ∷ 115 ∷ 32 ∷ 54 ∷ 32 ∷ 99 ∷ 104 ∷ 97 ∷ 114 ∷ 115 ∷ 32 ∷ 50 ∷ 32 ∷ 117 ∷ 116 ∷ 102 ∷ 49 ∷ 54 ∷ 32 ∷ 51 ∷ 32 ∷ 108 ∷ 105 ∷ 110 ∷ 101 ∷ 115 ∷ 32 ∷ 49 ∷ 10 ∷ []
unfolding listing valid_utf8 encode decode total unit_width breaks moved_to
wide = refl

-- "bytes 0 chars 0 utf16 0 lines 1": the totals of an empty note
abbrev none : List ℕ
none = 98 ∷ 121 ∷ 116 ∷ 101 ∷ 115 ∷ 32 ∷ 48 ∷ 32 ∷ 99 ∷ 104 ∷ 97 ∷ 114 ∷ 115 ∷ 32 ∷ 48 ∷ 32 ∷ 117 ∷ 116 ∷ 102 ∷ 49 ∷ 54 ∷ 32 ∷ 48 ∷ 32 ∷ 108 ∷ 105 ∷ 110 ∷ 101 ∷ 115 ∷ 32 ∷ 49 ∷ 10 ∷ []

-- an empty journal has the totals alone
pub empty : listing [] ≡ none
unfolding listing valid_utf8 encode decode total unit_width breaks moved_to
empty = refl

-- "1 refused 10"
abbrev bad : List ℕ
bad = 49 ∷ 32 ∷ 114 ∷ 101 ∷ 102 ∷ 117 ∷ 115 ∷ 101 ∷ 100 ∷ 32 ∷ 49 ∷ 48 ∷ 10 ∷ []

-- one byte is a cut field
pub cut : listing (1 ∷ []) ≡ bad ++ none
unfolding listing valid_utf8 encode decode total unit_width breaks moved_to
cut = refl

-- a removal of three bytes has a wrong length, and what is behind it is not read
pub wrong : listing (2 ∷ 0 ∷ 3 ∷ 0 ∷ 0 ∷ 0 ∷ input) ≡ bad ++ none
unfolding listing valid_utf8 encode decode total unit_width breaks moved_to
wrong = refl
