-- Numbers of two and four bytes, the most significant first.
use Rattle.std.specs.Prelude.{List, [], ◌∷◌, ◌++◌, ℕ, ◌+◌, ◌*◌, ◌/◌, ◌%◌, get_or}

-- the number of the two bytes from i on, and of the four
unfoldable pub two_at : List ℕ → ℕ → ℕ
two_at xs i = get_or xs i 0 * 256 + get_or xs (i + 1) 0

unfoldable pub four_at : List ℕ → ℕ → ℕ
four_at xs i = two_at xs i * 65536 + two_at xs (i + 2)

-- the bytes of a number below 2^16, and of one below 2^32
unfoldable pub bytes_of2 : ℕ → List ℕ
bytes_of2 v = v / 256 % 256 ∷ v % 256 ∷ []

unfoldable pub bytes_of4 : ℕ → List ℕ
bytes_of4 v = bytes_of2 (v / 65536) ++ bytes_of2 (v % 65536)
