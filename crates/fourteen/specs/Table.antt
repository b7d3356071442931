-- Document 01's "Fourteen shown and tested" as one table, in its order. A row is the item's number, what our definitions give, and what the
-- document says; what it says of T itself is item 0.
use Rattle.std.specs.Prelude.{true, false, List, [], ◌∷◌, ℕ, ℤ, pos, negsuc, length, replicate}
use Rattle.plain.specs.Place.{Measure.byte, Measure.char, Measure.unit, Measure.line}
use Rattle.plain.specs.Outcome.{Outcome, Outcome.value, Outcome.refused}
use Rattle.plain_note.specs.Note.{Note, opened}
use Rattle.plain_calls.specs.Calls.{Look, Look.total, Look.convert, Look.place, Look.line as beside, Call, Call.insert, Call.remove, Call.set_mark, Call.look, Said, Said.is, Said.by, called, after_all}
use Rattle.crlf.specs.Break.{at_index, nearest_break, good_split}
use Rattle.leaf_bytes.specs.Leaf.{laid}
use Rattle.node_text.specs.Texts.{seam_fixed}
use Rattle.pool.specs.Slot.{no_kid}
use Rattle.node_children.specs.Kids.{list_of}
use Rattle.node_children.specs.Calls.{distributed}

-- what a call of a note answers, two texts, how long two child lists are, or a refusal's number
pub data Result : Type 0 where
  answer : Said → Result
  texts : List ℕ → List ℕ → Result
  lengths : ℕ → ℕ → Result
  refusal : ℕ → Result

pub record Row : Type 0 where
  pub item : ℕ
  pub said : Result
  pub meant : Result

abbrev pub row : ℕ → Result → Result → Row
row i s m = record { item = i; said = s; meant = m }

abbrev pub number : ℕ → Result
number k = answer (is k)

abbrev pub change : ℤ → Result
change d = answer (by d)

-- what an outcome gives
abbrev pub come : {A : Type 0} → (A → Result) → Outcome A → Result
come f (value a) = f a
come f (refused k) = refusal k

-- ── what is asked ──

-- the answer of a call on a note
abbrev pub asked : Note → Call → Result
asked N c = come (λ r. answer r.0) (called N c)

abbrev pub seen : Note → Look → Result
seen N l = asked N (look l)

-- T is a CR LF é U+1F600 b: in a new note of 17 slots, with marks 0, 1 and 2 set at the places 1, 2 and 3
unfoldable pub T : Note
T = after_all (opened 17) (insert 0 (0x61 ∷ 0x0D ∷ 0x0A ∷ 0xC3 ∷ 0xA9 ∷ 0xF0 ∷ 0x9F ∷ 0x98 ∷ 0x80 ∷ 0x62 ∷ []) ∷ set_mark 1 ∷ set_mark 2 ∷ set_mark 3 ∷ [])

-- x put in at 2, and T with it
abbrev pub put_x : Call
put_x = insert 2 (0x78 ∷ [])

unfoldable pub X : Note
X = after_all T (put_x ∷ [])

abbrev pub cr_lf : List ℕ
cr_lf = 0x0D ∷ 0x0A ∷ []

-- the seam of two texts, each at the front of a region of 512 bytes
abbrev pub region : List ℕ → List ℕ
region t = laid (replicate 512 0) t

abbrev pub seam : List ℕ → List ℕ → Result
seam l r = come (λ t. texts t.0 t.1) (seam_fixed (region l) (length l) (region r) (length r))

-- two lists of so many children
abbrev pub shared : ℕ → ℕ → Result
shared a b = come (λ t. lengths t.0.len t.1.len) (distributed (list_of (replicate a no_kid)) (list_of (replicate b no_kid)))

-- a note of n slots that so many letters a are put into
abbrev pub filled : ℕ → ℕ → Result
filled n k = asked (opened n) (insert 0 (replicate k 0x61))

-- ── the table ──

unfoldable pub table : List Row
table =
    row 0 (seen T (total byte)) (number 10)
    ∷ row 0 (seen T (total char)) (number 6)
    ∷ row 0 (seen T (total unit)) (number 7)
    ∷ row 0 (seen T (total line)) (number 2)
    ∷ row 1 (seen T (convert char byte 2)) (number 2)
    ∷ row 1 (seen T (convert char line 2)) (number 0)
    ∷ row 2 (seen T (convert char byte 3)) (number 3)
    ∷ row 2 (seen T (convert char unit 3)) (number 3)
    ∷ row 2 (seen T (convert char line 3)) (number 1)
    ∷ row 3 (seen T (convert char byte 5)) (number 9)
    ∷ row 3 (seen T (convert char unit 5)) (number 6)
    ∷ row 4 (seen T (convert unit char 5)) (number 4)
    ∷ row 5 (seen T (convert byte char 7)) (number 4)
    ∷ row 6 (seen T (convert line char 2)) (number 6)
    ∷ row 6 (seen T (convert line char 3)) (refusal 3)
    ∷ row 7 (seen X (total line)) (number 3)
    ∷ row 7 (asked T put_x) (change (pos 1))
    ∷ row 7 (seen X (place 0)) (number 1)
    ∷ row 7 (seen X (place 1)) (number 3)
    ∷ row 7 (seen X (beside 1)) (number 1)
    ∷ row 7 (seen X (place 2)) (number 4)
    ∷ row 7 (seen X (beside 2)) (number 2)
    ∷ row 8 (asked X (remove 2 3)) (change (negsuc 0))
    ∷ row 9 (come number (at_index cr_lf 1 (nearest_break cr_lf 1))) (number 2)
    ∷ row 10 (come number (at_index cr_lf 1 (good_split cr_lf 1 true))) (number 2)
    ∷ row 10 (come number (at_index cr_lf 1 (good_split cr_lf 1 false))) (number 0)
    ∷ row 11 (seam (0x61 ∷ 0x0D ∷ []) (0x0A ∷ [])) (texts (0x61 ∷ []) cr_lf)
    ∷ row 12 (seam (0x0D ∷ []) (0x0A ∷ [])) (texts cr_lf [])
    ∷ row 13 (shared 3 6) (lengths 5 4)
    ∷ row 14 (filled 17 64) (change (pos 0))
    ∷ row 14 (filled 17 65) (refusal 6)
    ∷ []
