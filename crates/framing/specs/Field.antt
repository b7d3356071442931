-- A tagged field at the front of some bytes: a tag of one byte, a length of two, big-endian, then so many bytes.
use Rattle.std.specs.Prelude.{Bool, List, ℕ, ◌+◌, leb, length, get_or, take, drop}
use Rattle.octets.specs.Big.{two_at}

-- how many bytes it takes
unfoldable pub field_bytes : List ℕ → ℕ
unfolding two_at
field_bytes s = 3 + two_at s 1

-- is it all there?
unfoldable pub is_whole : List ℕ → Bool
unfolding field_bytes
is_whole s = leb (field_bytes s) (length s)

abbrev pub tag_of : List ℕ → ℕ
tag_of s = get_or s 0 0

unfoldable pub body_of : List ℕ → List ℕ
unfolding two_at
body_of s = take (two_at s 1) (drop 3 s)

-- what comes behind it
abbrev pub behind : List ℕ → List ℕ
behind s = drop (field_bytes s) s
