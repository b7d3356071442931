-- What the note's own memory holds between two steps of an edit: a note whose marks are not looked at, and which may be one byte above its size.
use Rattle.std.specs.Prelude.{◌≡◌, true, List, ℕ, ◌+◌, ◌≤◌, ◌<◌, length, take, drop}
use Rattle.plain_note.specs.Note.{limit, head_size}
use Rattle.tree.specs.Tree.{sound, least_root, told_right}
use Rattle.note_head.specs.Head.{n_of, root_of, height_of}
use Rattle.memory.specs.Formed.{note_bytes, in_tree}
use Rattle.edit_steps.specs.Became.{free, Slotted}

-- the bytes t, in a memory of n slots
pub record Held (m : List ℕ) (n : ℕ) (t : List ℕ) : Type 0 where
  pub least : 17 ≤ n
  pub most : n ≤ 4096
  pub slotted : Slotted m n
  pub good : sound m (least_root (height_of m)) (height_of m) (root_of m).slot ≡ true
  pub told : told_right m (height_of m) (root_of m) ≡ true
  pub each : (x : ℕ) → x < n → in_tree m x + free m n x ≡ 1
  pub bytes : note_bytes m ≡ t
  pub size : length t ≤ limit n + 1

-- of the memory as it lies
abbrev pub Holds : List ℕ → Type 0
Holds m = Held m (n_of m) (note_bytes m)

-- Every byte of the head is as it was but those that tell the root (8 to 27), the height (28) and the first free slot (32 to 35): so are the number of
-- slots, the edit number and the marks.
pub record Kept (m later : List ℕ) : Type 0 where
  pub front : take 8 later ≡ take 8 m
  pub middle : drop 29 (take 32 later) ≡ drop 29 (take 32 m)
  pub rest : drop 36 (take head_size later) ≡ drop 36 (take head_size m)
