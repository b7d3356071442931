-- What the parts of the check promise, over the note's own memory m and the marks of the slots that were met.
use Rattle.std.specs.Prelude.{Option, Some, None, ◌≡◌, Bool, true, false, ◌&&◌, ◌||◌, List, ℕ, zero, suc, ◌+◌, ◌≤◌, ◌<◌, eqb, leb, length, set, get_or}
use Rattle.plain_note.specs.Note.{need, limit}
use Rattle.text_info.specs.declared.TextSum.{TextSum}
use Rattle.pool.specs.Slot.{kind_of, next_of}
use Rattle.tree.specs.Tree.{least_root, tells}
use Rattle.tree_check.specs.Met.{mark, NodeMet}
use Rattle.tree_check.specs.declared.Met.{Met}
use Rattle.note_head.specs.Head.{n_of, root_of, height_of, free_of, live_at, place_at}
use Rattle.memory.specs.Formed.{all_below, frees, chained, in_free, tree_right, slots_right, size_right, marks_right}

-- all clauses but the first, which is of the need
unfoldable pub own_right : List ℕ → Bool
unfolding tree_right slots_right size_right marks_right
own_right m = tree_right m && (slots_right m && (size_right m && marks_right m))

-- mark k is free, or live at a place of a note of so many chars
abbrev pub mark_right : List ℕ → ℕ → ℕ → Bool
mark_right m chars k = eqb (live_at m k) 0 || (eqb (live_at m k) 1 && leb (place_at m k) chars)

abbrev pub met : List ℕ → ℕ → Bool
met seen x = eqb (mark seen x) 1

-- a step along the free slots: the slot is free by its kind and was not met, and now is
pub record Took (m seen later : List ℕ) (s next : ℕ) : Type 0 where
  pub here : s < length seen
  pub free : kind_of m s ≡ 0
  pub new : get_or seen s 0 ≡ 0
  pub on : next ≡ next_of m s
  pub marked : later ≡ set seen s 1

abbrev pub Stepped : List ℕ → List ℕ → List ℕ → ℕ → Option ℕ → Type 0
Stepped m seen later s (Some next) = Took m seen later s next
Stepped m seen later s None = s < length seen → kind_of m s ≡ 0 → mark seen s ≡ 0 → ⊥

-- k steps along free slots that lie in a row from s on
abbrev pub Row : List ℕ → List ℕ → List ℕ → ℕ → ℕ → Type 0
Row m seen later s zero = later ≡ seen
Row m seen later s (suc k) = (mid : List ℕ) × Row m seen mid s k × Took m mid later (s + k) (s + k + 1)

-- no slot that u counts was met, and u counts none twice; the marks afterwards have what u counts
abbrev pub Unmet : List ℕ → (ℕ → ℕ) → Type 0
Unmet seen u = (x : ℕ) → mark seen x + u x ≤ 1

abbrev pub Meets : List ℕ → (ℕ → ℕ) → List ℕ → Type 0
Meets seen u later = (x : ℕ) → mark later x ≡ mark seen x + u x

-- the free slots from a first one on, n slots in all: yes exactly where they are a chain, and none of them was met
abbrev pub Walked : List ℕ → ℕ → ℕ → List ℕ → List ℕ → Bool → Type 0
Walked m n first seen later true = (chained m n n first ≡ true) × Meets seen (frees m n n first) later
Walked m n first seen later false = chained m n n first ≡ true → Unmet seen (frees m n n first) → ⊥

-- each slot was met, or is free
abbrev pub Each : List ℕ → ℕ → List ℕ → Type 0
Each m n seen = (x : ℕ) → x < n → mark seen x + in_free m x ≡ 1

abbrev pub Sorted : List ℕ → List ℕ → Bool → Type 0
Sorted m seen true = (chained m (n_of m) (n_of m) (free_of m) ≡ true) × Each m (n_of m) seen
Sorted m seen false = chained m (n_of m) (n_of m) (free_of m) ≡ true → Each m (n_of m) seen → ⊥

-- the tree from the root on
abbrev pub RootMet : List ℕ → List ℕ → List ℕ → Option Met → Type 0
RootMet m seen later r = NodeMet m seen later (least_root (height_of m)) (height_of m) (root_of m).slot r

-- the head's part for a note of these counts: the counts that the root stores, the size of n slots, and the marks
unfoldable pub head_right : List ℕ → ℕ → TextSum → Bool
unfolding all_below root_of live_at place_at
head_right m n sum = tells (root_of m).info sum && (leb sum.bytes (limit n) && all_below 256 (mark_right m sum.chars))

-- marks for the n slots of the memory m, none of them met
pub record Ready (m seen : List ℕ) : Type 0 where
  pub slots : length seen ≡ n_of m
  pub least : 17 ≤ length seen
  pub most : length seen ≤ 4096
  pub room : length m ≡ need (length seen)
  pub none : (x : ℕ) → x < length seen → mark seen x ≡ 0
