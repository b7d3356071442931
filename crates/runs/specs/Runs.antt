-- The parts that runs and previews hand out. Where they begin is settled by the note; where they end, by the leaves.
use Rattle.std.specs.Prelude.{cond, List, ℕ, ◌-◌, ltb, take, drop}
use Rattle.plain.specs.Count.{count_if}
use Rattle.plain.specs.Place.{is_start}
use Rattle.plain.specs.Outcome.{part, mapped}
use Rattle.plain_note.specs.Note.{read_from, previewed}
use Rattle.note_head.specs.Head.{own_of}
use Rattle.memory.specs.Formed.{of_note}
use Rattle.leaf_parts.specs.Parts.{byte_in, from_char}

-- from the place p to the end of its leaf
unfoldable pub run_of : List ℕ → ℕ → List ℕ
unfolding from_char read_from of_note own_of
run_of m p = part (mapped (λ t. from_char (own_of m) p) (of_note m (λ N. read_from N p)))

-- the first n chars of some bytes
abbrev pub front_of : ℕ → List ℕ → List ℕ
front_of n t = take (byte_in t n) t

-- The note m with a piece put in at p, from the place q of the joined text on: below p to the end of the leaf, or to p if that is nearer; in the
-- piece to its end; behind it to the end of the leaf.
unfoldable pub joined_from : List ℕ → ℕ → List ℕ → ℕ → List ℕ
unfolding from_char
joined_from m p piece q =
    cond (ltb q p) (front_of (p - q) (from_char m q))
    (cond (ltb (q - p) (count_if is_start piece)) (drop (byte_in piece (q - p)) piece) (from_char m (q - count_if is_start piece)))

unfoldable pub preview_of : List ℕ → ℕ → List ℕ → ℕ → List ℕ
unfolding joined_from previewed of_note own_of
preview_of m p piece q = part (mapped (λ t. joined_from (own_of m) p piece q) (of_note m (λ N. previewed N p piece q)))
