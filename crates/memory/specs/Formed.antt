-- When the lent memory is well formed, clause by clause as document 01 has it, and the note that it then is.
use Rattle.std.specs.Prelude.{Bool, true, ◌&&◌, ◌||◌, cond, List, ℕ, zero, suc, ◌+◌, eqb, leb, ltb, length}
use Rattle.plain.specs.Utf8.{decode}
use Rattle.plain.specs.Outcome.{Outcome, Outcome.refused}
use Rattle.plain_note.specs.Note.{Note, need, limit}
use Rattle.pool.specs.Slot.{kind_of, next_of}
use Rattle.tree.specs.Tree.{hit, uses, bytes_below, sound, least_root, told_right}
use Rattle.note_head.specs.Head.{n_of, edit_of, root_of, height_of, free_of, live_at, place_at, marks_from, own_of}

-- whether all numbers below n pass a test
unfoldable pub all_below : ℕ → (ℕ → Bool) → Bool
all_below zero f = true
all_below (suc n) f = f n && all_below n f

-- ── the free slots, a chain from a first one on: each names the next, and n ends it ──

-- how often x is among the first k of them
unfoldable pub frees : List ℕ → ℕ → ℕ → ℕ → ℕ → ℕ
unfolding hit
frees m n zero s x = 0
frees m n (suc k) s x = cond (ltb s n) (hit s x + frees m n k (next_of m s) x) 0

-- at most k of them, all free by their kind
unfoldable pub chained : List ℕ → ℕ → ℕ → ℕ → Bool
chained m n zero s = eqb s n
chained m n (suc k) s = eqb s n || (ltb s n && (eqb (kind_of m s) 0 && chained m n k (next_of m s)))

-- ── of the memory that the note has ──

-- the bytes of the note
abbrev pub note_bytes : List ℕ → List ℕ
note_bytes m = bytes_below m (height_of m) (root_of m).slot

-- how often slot x is in the tree, and how often free
abbrev pub in_tree : List ℕ → ℕ → ℕ
in_tree m x = uses m (height_of m) (root_of m).slot x

abbrev pub in_free : List ℕ → ℕ → ℕ
in_free m x = frees m (n_of m) (n_of m) (free_of m) x

-- the tree: all leaves at one depth, sizes with the root's own, every leaf UTF-8, no seam that parts CR from LF, and the counts that the
-- lists and the head store are the counted ones
unfoldable pub tree_right : List ℕ → Bool
unfolding sound least_root told_right height_of root_of
tree_right m = sound m (least_root (height_of m)) (height_of m) (root_of m).slot && told_right m (height_of m) (root_of m)

-- each slot is either in the tree once or free, never both
unfoldable pub slots_right : List ℕ → Bool
unfolding all_below uses frees chained n_of free_of height_of root_of
slots_right m = chained m (n_of m) (n_of m) (free_of m) && all_below (n_of m) (λ x. eqb (in_tree m x + in_free m x) 1)

-- the note within its size
unfoldable pub size_right : List ℕ → Bool
unfolding bytes_below n_of height_of root_of
size_right m = leb (length (note_bytes m)) (limit (n_of m))

-- marks at places that exist
unfoldable pub marks_right : List ℕ → Bool
unfolding all_below live_at place_at bytes_below height_of root_of
marks_right m = all_below 256 (λ k. eqb (live_at m k) 0 || (eqb (live_at m k) 1 && leb (place_at m k) (length (decode (note_bytes m)))))

-- the stored n is 17 to 4,096, and its need is met
unfoldable pub need_met : List ℕ → Bool
unfolding n_of
need_met m = leb 17 (n_of m) && (leb (n_of m) 4096 && leb (need (n_of m)) (length m))

-- ── of the lent memory ──

unfoldable pub well_formed : List ℕ → Bool
unfolding need_met tree_right slots_right size_right marks_right own_of
well_formed m = need_met m && (tree_right (own_of m) && (slots_right (own_of m) && (size_right (own_of m) && marks_right (own_of m))))

-- the note
abbrev pub note_in : List ℕ → Note
note_in m = record { text = decode (note_bytes m); marks = marks_from m 0 256; edit = edit_of m; n = n_of m }

abbrev pub note_of : List ℕ → Note
note_of m = note_in (own_of m)

-- what a call of the note comes to: 2 where the memory is not well formed, else what the call comes to on the note
unfoldable pub of_note : {A : Type 0} → List ℕ → (Note → Outcome A) → Outcome A
unfolding well_formed
of_note m f = cond (well_formed m) (f (note_of m)) (refused 2)
