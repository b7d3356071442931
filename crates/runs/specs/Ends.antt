-- Where a run and a preview lie and end: document 01's words, which the theorems of proofs/Ends.antt say of every well-formed memory. No contract cites
-- them.
use Rattle.std.specs.Prelude.{◌≡◌, true, List, [], ◌++◌, ℕ, ◌+◌, ◌-◌, ◌≤◌, ◌<◌, length, drop}
use Rattle.plain.specs.Utf8.{decode}
use Rattle.plain.specs.Count.{count_if}
use Rattle.plain.specs.Place.{is_start, byte_at}
use Rattle.plain.specs.Edit.{put_in}
use Rattle.plain_note.specs.Note.{between}
use Rattle.pool.specs.Slot.{slot_start, len_of}
use Rattle.nodes.specs.Node.{is_leaf, text_of}
use Rattle.note_head.specs.Head.{own_of}
use Rattle.memory.specs.Formed.{note_bytes, in_tree, note_of}
use Rattle.runs.specs.Runs.{front_of}

-- The rest of the leaf that holds the char at a place: the note's bytes are those before the leaf, the leaf's and those behind it; the char begins
-- with the byte `from` of the leaf; and these bytes lie at the leaf's place in the lent memory.
pub record RestOfLeaf (m : List ℕ) (at : ℕ) (t : List ℕ) : Type 0 where
  pub slot : ℕ
  pub leaf : is_leaf (own_of m) slot ≡ true
  pub used : 1 ≤ in_tree (own_of m) slot
  pub before : List ℕ
  pub behind : List ℕ
  pub whole : note_bytes (own_of m) ≡ before ++ (text_of (own_of m) slot ++ behind)
  pub from : ℕ
  pub inside : from < length (text_of (own_of m) slot)
  pub here : length before + from ≡ byte_at (note_of m).text at
  pub is : t ≡ drop from (text_of (own_of m) slot)
  pub lies : t ≡ between (slot_start slot + 128 + from) (slot_start slot + 128 + len_of (own_of m) slot) m

-- of the rest of a leaf, from the place q on, what stands before the place p: all of it where the leaf ends there or before, else the chars up to p
pub record UpTo (p q : ℕ) (rest t : List ℕ) : Type 0 where
  pub whole : q + count_if is_start rest ≤ p → t ≡ rest
  pub nearer : p < q + count_if is_start rest → (t ≡ front_of (p - q) rest) × (q + count_if is_start t ≡ p)

-- the preview of a piece put in at p, from the place q of the joined text on
pub data PreviewPart (m : List ℕ) (p : ℕ) (piece : List ℕ) (q : ℕ) (t : List ℕ) : Type 0 where
  below : q < p → (rest : List ℕ) → RestOfLeaf m q rest → UpTo p q rest t → PreviewPart m p piece q t
  within : p ≤ q → q < p + length (decode piece) → t ≡ drop (byte_at (decode piece) (q - p)) piece → PreviewPart m p piece q t
  beyond : p + length (decode piece) ≤ q → RestOfLeaf m (q - length (decode piece)) t → PreviewPart m p piece q t
  over : q ≡ length (put_in p (decode piece) (note_of m).text) → t ≡ [] → PreviewPart m p piece q t
