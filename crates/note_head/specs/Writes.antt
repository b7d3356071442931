-- What the writers of the memory's head come to: document 01's refusal 2, and every byte afterwards.
use Rattle.std.specs.Prelude.{List, [], ◌∷◌, ℕ, ◌+◌, leb, length}
use Rattle.plain_note.specs.Note.{head_size}
use Rattle.plain.specs.Outcome.{Outcome, Rule, ruled, past}
use Rattle.octets.specs.Over.{overlaid}
use Rattle.octets.specs.Big.{bytes_of4}
use Rattle.pool.specs.Slot.{kid_bytes}
use Rattle.pool.specs.declared.Kid.{Kid}
use Rattle.note_head.specs.Head.{mark_start}

-- ── the memory with a number, a root, a height in its head ──

abbrev pub number_put : List ℕ → ℕ → ℕ → List ℕ
number_put m at v = overlaid at (bytes_of4 v) m

abbrev pub root_put : List ℕ → Kid → List ℕ
root_put m k = overlaid 8 (kid_bytes k) m

abbrev pub height_put : List ℕ → ℕ → List ℕ
height_put m h = overlaid 28 (h ∷ []) m

-- ── the memory with mark k live or free, and with its place ──

abbrev pub live_put : List ℕ → ℕ → ℕ → List ℕ
live_put m k v = overlaid (mark_start k) (v ∷ []) m

abbrev pub place_put : List ℕ → ℕ → ℕ → List ℕ
place_put m k q = number_put m (mark_start k + 4) q

-- 2: the memory is shorter than its head
abbrev pub no_head : List ℕ → Rule
no_head m = (2, past head_size (length m))

unfoldable pub number_set : List ℕ → ℕ → ℕ → Outcome (List ℕ)
number_set m at v = ruled (no_head m ∷ []) (number_put m at v)

unfoldable pub root_set : List ℕ → Kid → Outcome (List ℕ)
root_set m k = ruled (no_head m ∷ []) (root_put m k)

unfoldable pub height_set : List ℕ → ℕ → Outcome (List ℕ)
height_set m h = ruled (no_head m ∷ []) (height_put m h)

-- 7: no mark has this number
abbrev pub no_mark : ℕ → Rule
no_mark k = (7, leb 256 k)

unfoldable pub live_set : List ℕ → ℕ → ℕ → Outcome (List ℕ)
live_set m k v = ruled (no_head m ∷ no_mark k ∷ []) (live_put m k v)

unfoldable pub place_set : List ℕ → ℕ → ℕ → Outcome (List ℕ)
place_set m k q = ruled (no_head m ∷ no_mark k ∷ []) (place_put m k q)
