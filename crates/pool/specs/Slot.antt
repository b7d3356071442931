-- The lent memory cut into slots of 640 bytes behind its head, and what lies in a slot.
use Rattle.std.specs.Prelude.{List, [], ◌∷◌, ◌++◌, ℕ, zero, suc, ◌+◌, ◌*◌, ◌<◌, take, drop, get_or}
use Rattle.plain_note.specs.Note.{head_size}
use Rattle.octets.specs.Over.{overlaid}
use Rattle.pool.specs.declared.Kid.{Kid}
use Rattle.octets.specs.Big.{two_at, four_at, bytes_of2, bytes_of4}

-- where slot s begins, and the entry i of its child list
abbrev pub slot_start : ℕ → ℕ
slot_start s = head_size + 640 * s

abbrev pub kid_start : ℕ → ℕ → ℕ
kid_start s i = slot_start s + (128 + 20 * i)

-- its bytes
unfoldable pub slot_of : List ℕ → ℕ → List ℕ
slot_of m s = take 640 (drop (slot_start s) m)

-- ── the head of a slot: its kind (0 free, 1 leaf, 2 list), a leaf's or a list's length, and the next free slot ──

abbrev pub kind_of : List ℕ → ℕ → ℕ
kind_of m s = get_or (slot_of m s) 0 0

abbrev pub len_of : List ℕ → ℕ → ℕ
len_of m s = two_at (slot_of m s) 2

abbrev pub next_of : List ℕ → ℕ → ℕ
next_of m s = four_at (slot_of m s) 4

-- the eight bytes of a head
unfoldable pub head_bytes : ℕ → ℕ → ℕ → List ℕ
head_bytes kind len next = kind ∷ 0 ∷ (bytes_of2 len ++ bytes_of4 next)

-- ── its region of 512 bytes: a leaf's text, or sixteen entries of a child list ──

unfoldable pub region_of : List ℕ → ℕ → List ℕ
region_of m s = take 512 (drop 128 (slot_of m s))

-- a child in the 20 bytes from i on
unfoldable pub kid_at : List ℕ → ℕ → Kid
kid_at xs i = record {
  slot = four_at xs i;
  info = record { bytes = four_at xs (i + 4); chars = four_at xs (i + 8); utf16_surrogates = four_at xs (i + 12); line_breaks = four_at xs (i + 16) };
}

unfoldable pub kid_bytes : Kid → List ℕ
kid_bytes k = bytes_of4 k.slot ++ (bytes_of4 k.info.bytes ++ (bytes_of4 k.info.chars ++ (bytes_of4 k.info.utf16_surrogates ++ bytes_of4 k.info.line_breaks)))

unfoldable pub kids_from : ℕ → List ℕ → List Kid
kids_from zero xs = []
kids_from (suc n) xs = kid_at xs 0 ∷ kids_from n (drop 20 xs)

unfoldable pub entries : List ℕ → List Kid
entries region = kids_from 16 region

-- what stands past the last entry
abbrev pub no_kid : Kid
no_kid = record { slot = 0; info = record { bytes = 0; chars = 0; utf16_surrogates = 0; line_breaks = 0 } }

-- a child's numbers have 32 bits
pub record Fits (k : Kid) : Type 0 where
  pub slot : k.slot < 4294967296
  pub bytes : k.info.bytes < 4294967296
  pub chars : k.info.chars < 4294967296
  pub surrogates : k.info.utf16_surrogates < 4294967296
  pub breaks : k.info.line_breaks < 4294967296

-- ── the memory with a head in slot s, with a child as entry i of its list, and with bytes in the place of its region ──

abbrev pub head_put : List ℕ → ℕ → ℕ → ℕ → ℕ → List ℕ
head_put m s kind len next = overlaid (slot_start s) (head_bytes kind len next) m

abbrev pub kid_put : List ℕ → ℕ → ℕ → Kid → List ℕ
kid_put m s i k = overlaid (kid_start s i) (kid_bytes k) m

abbrev pub region_put : List ℕ → ℕ → List ℕ → List ℕ
region_put m s region = overlaid (slot_start s + 128) region m
