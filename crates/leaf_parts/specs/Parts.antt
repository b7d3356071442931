-- The leaf that an index of the note's text lies in, and the parts of it that are handed out, on any memory.
use Rattle.std.specs.Prelude.{cond, List, [], ℕ, ◌+◌, ◌-◌, drop}
use Rattle.plain.specs.Place.{start_chars, place_of}
use Rattle.plain.specs.Outcome.{Outcome, part, mapped}
use Rattle.text_info.specs.declared.TextSum.{TextSum}
use Rattle.child_search.specs.declared.Measure.{Measure}
use Rattle.child_search.specs.declared.Measure.TheVariants.{Bytes, Chars}
use Rattle.nodes.specs.Node.{is_leaf, text_of}
use Rattle.tree_search.specs.Search.{leaf_at}
use Rattle.note_head.specs.Head.{root_of, height_of}

-- the text of the leaf in a slot; empty where there is none
unfoldable pub leaf_text : List ℕ → ℕ → List ℕ
unfolding is_leaf
leaf_text m s = cond (is_leaf m s) (text_of m s) []

-- the byte of a leaf at which its char i begins
abbrev pub byte_in : List ℕ → ℕ → ℕ
byte_in t i = place_of start_chars t i

-- the leaf that a search for an index ends at, and the counts on its left
abbrev pub spot_of : List ℕ → Measure → ℕ → Outcome (ℕ × TextSum)
spot_of m by at = leaf_at m (height_of m) (root_of m).slot by at

-- from the char, or the byte, with the index `at` to the end of the leaf that a search for it found
abbrev pub chars_behind : List ℕ → ℕ → ℕ × TextSum → List ℕ
chars_behind m at r = drop (byte_in (leaf_text m r.0) (at - r.1.chars)) (leaf_text m r.0)

abbrev pub bytes_behind : List ℕ → ℕ → ℕ × TextSum → List ℕ
bytes_behind m at r = drop (at - r.1.bytes) (leaf_text m r.0)

unfoldable pub from_char : List ℕ → ℕ → List ℕ
unfolding leaf_at height_of root_of
from_char m at = part (mapped (chars_behind m at) (spot_of m Chars at))

unfoldable pub from_byte : List ℕ → ℕ → List ℕ
unfolding leaf_at height_of root_of
from_byte m at = part (mapped (bytes_behind m at) (spot_of m Bytes at))

-- the byte of the whole text at which its char `at` begins
abbrev pub start_of : List ℕ → ℕ → ℕ × TextSum → ℕ
start_of m at r = r.1.bytes + byte_in (leaf_text m r.0) (at - r.1.chars)

unfoldable pub byte_of : List ℕ → ℕ → Outcome ℕ
unfolding leaf_at height_of root_of
byte_of m at = mapped (start_of m at) (spot_of m Chars at)
