-- What the steps of an edit promise of the part of the memory that the note has, which holds a note before and after (crate held).
use Rattle.std.specs.Prelude.{◌≡◌, true, false, ◌&&◌, List, ℕ, ◌+◌, ◌≤◌, ◌<◌, length, take, drop}
use Rattle.plain.specs.Utf8.{valid_utf8, decode}
use Rattle.plain.specs.Count.{cr_last, lf_first}
use Rattle.plain_note.specs.Note.{limit}
use Rattle.note_head.specs.Head.{n_of}
use Rattle.memory.specs.Formed.{note_bytes}
use Rattle.edit_steps.specs.Held.{Holds, Kept}

-- the text
abbrev pub text_in : List ℕ → List ℕ
text_in m = decode (note_bytes m)

-- the memory later holds the text cs, with the number of slots, the edit number and the marks of m
pub record Turned (m cs later : List ℕ) : Type 0 where
  pub holds : Holds later
  pub text : text_in later ≡ cs
  pub kept : Kept m later

-- [s, e) of a text may be taken out from the back: no place in it becomes a seam that parts CR from LF
abbrev pub Loose : List ℕ → ℕ → ℕ → Type 0
Loose cs s e = (q : ℕ) → s ≤ q → q < e → (cr_last (take q cs) && lf_first (drop e cs)) ≡ false

-- what the steps ask: of an insertion, which may leave one byte more than the note's size; of a cut; and of a removal, which puts a byte in meanwhile
pub record Puts (m : List ℕ) (p : ℕ) (piece : List ℕ) : Type 0 where
  pub holds : Holds m
  pub here : p ≤ length (text_in m)
  pub valid : valid_utf8 piece ≡ true
  pub short : length piece ≤ 256
  pub room : length (note_bytes m) + length piece ≤ limit (n_of m) + 1

pub record Cuts (m : List ℕ) (s e : ℕ) : Type 0 where
  pub holds : Holds m
  pub low : s ≤ e
  pub high : e ≤ length (text_in m)
  pub loose : Loose (text_in m) s e

pub record Removes (m : List ℕ) (s e : ℕ) : Type 0 where
  pub holds : Holds m
  pub low : s ≤ e
  pub high : e ≤ length (text_in m)
  pub room : length (note_bytes m) ≤ limit (n_of m)
