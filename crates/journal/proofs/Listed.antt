-- One field listed, and all that are whole: what is taken, what is done and what is put.
use mathlib.Core.Path.{◌≡◌, refl, sym, ap, subst, ◌∙◌}
use mathlib.Core.Bool.{Bool, true, false, cond}
use mathlib.Core.List.{List, [], ◌∷◌, ◌++◌, append_assoc, append-nil}
use mathlib.Core.Logic.{◌⊎◌}
use Prim.Native.Nat.{ℕ, ◌+◌, ◌-◌, ◌*◌, ◌≤◌, ◌<◌}
use native.Mathlib.Omega.{arith}
use lib.ListN.{length, take, drop, length-append, length-drop}
use lib.Seq.{take_all, take-add}
use Rattle.plain.specs.Outcome.{Outcome}
use Rattle.plain_note.specs.Note.{Note}
use Rattle.plain_calls.specs.Calls.{Call}
use Rattle.memory.specs.Formed.{well_formed, note_of}
use Rattle.plain_journal.specs.Fields.{asked, fields_of}
use Rattle.framing.specs.Field.{field_bytes, is_whole, tag_of, body_of}
use Rattle.plain_journal.specs.Replay.{played, code_of, codes, after}
use Rattle.plain_journal.specs.Listing.{field_line, field_lines}
use Rattle.plain_journal.proofs.Framing.{fields-none, fields-front}
use Rattle.framing.proofs.Field.{three-bytes, whole_le}
use Rattle.plain_journal.proofs.Listed.{lines-one}
use Rattle.journal_fields.specs.declared.Done.{Done}
use Rattle.journal_fields.specs.Applied.{Applied, line_number, Starved}
use Rattle.journal.specs.declared.fields.Field.{Field}
use Rattle.journal.specs.declared.fields.Field.TheVariants.{Short, Listed, Bad}
use Rattle.journal.specs.Turns.{Did, Played, Cut, lines_of, Feeds}
use Rattle.journal.proofs.Played.{is_bad, field-number, field-before, played-one, played-left, replays}

-- ── all that are ──

-- the part from a place on is the list from there on
pub part-all : (b : List ℕ) (at : ℕ) → take (length b - at) (drop at b) ≡ drop at b
part-all b at = take_all (length b - at) (drop at b) (omega (arith, length-drop at b))

-- what holds from field to field: what is taken, done and put
pub record Taking (m₀ m buf o : List ℕ) (k at put j : ℕ) (ended : Bool) : Type 0 where
  pub whole : Cut (take at buf) ended
  pub played : Played m₀ (fields_of (take at buf)) m
  pub count : j ≡ k + length (fields_of (take at buf))
  pub lines : take put o ≡ lines_of m₀ k (take at buf)

none : fields_of [] ≡ []
none = fields-none [] refl

pub taking-start : (m buf o : List ℕ) (k : ℕ) → Taking m m buf o k 0 0 k false
unfolding codes field_lines
taking-start m buf o k =
    record {
      whole = λ more. ap (λ (fs : List (Outcome Call)). fs ++ fields_of more) (sym none);
      played = subst (λ (fs : List (Outcome Call)). Played m fs m) (sym none) refl;
      count = omega (arith, ap length none);
      lines = ap (λ (fs : List (Outcome Call)). field_lines k (codes (note_of m) fs)) (sym none);
    }

-- THEOREM: one more field.
module _ (m₀ m m' buf o o' : List ℕ) (k at put j u p : ℕ) (d : Done) (ok : well_formed m₀ ≡ true) (t : Taking m₀ m buf o k at put j false)
    (w : is_whole (drop at buf) ≡ true) (is : u ≡ field_bytes (drop at buf)) (a : Applied (asked (tag_of (drop at buf)) (body_of (drop at buf))) m d m') (line : take p o' ≡ take put o ++ field_line j (line_number d)) where
  abbrev s : List ℕ
  s = drop at buf

  abbrev f : Outcome Call
  f = asked (tag_of s) (body_of s)

  abbrev fs : List (Outcome Call)
  fs = fields_of (take at buf)

  formed : well_formed m ≡ true
  formed = (played-left fs m₀ m ok t.played).formed

  bytes-are : take (at + u) buf ≡ take at buf ++ take (field_bytes s) s
  bytes-are = take-add at u buf ∙ ap (λ (n : ℕ). take at buf ++ take n s) is

  -- its fields, with more bytes behind
  fields-are : (more : List ℕ) → fields_of (take (at + u) buf ++ more) ≡ fs ++ (f ∷ cond (is_bad d) [] (fields_of more))
  fields-are more =
      ap (λ (l : List ℕ). fields_of (l ++ more)) bytes-are ∙ ap fields_of (append_assoc (take at buf) (take (field_bytes s) s) more)
      ∙ t.whole (take (field_bytes s) s ++ more)
      ∙ ap (λ (l : List (Outcome Call)). fs ++ l) (fields-front s w more ∙ field-before m formed d m' f (fields_of more) a)

  off : (t : Bool) → cond t [] (fields_of []) ≡ []
  off true = refl
  off false = none

  all_are : fields_of (take (at + u) buf) ≡ fs ++ (f ∷ [])
  all_are =
      ap fields_of (sym (append-nil (take (at + u) buf))) ∙ fields-are [] ∙ ap (λ (l : List (Outcome Call)). fs ++ (f ∷ l)) (off (is_bad d))

  pub taking-one : Taking m₀ m' buf o' k (at + u) p (j + 1) (is_bad d)
  taking-one =
      record {
        whole = λ more. fields-are more ∙ sym (append_assoc fs (f ∷ []) (cond (is_bad d) [] (fields_of more))) ∙ ap (λ (l : List (Outcome Call)). l ++ cond (is_bad d) [] (fields_of more)) (sym all_are);
        played = subst (λ (l : List (Outcome Call)). Played m₀ l m') (sym all_are) (played-one fs m₀ m m' f d t.played a);
        count = omega (arith, t.count, ap length all_are, length-append fs (f ∷ []));
        lines = line ∙ cc (t.lines, number)
            ∙ sym (lines-one (note_of m₀) k fs f)
            ∙ ap (λ (l : List (Outcome Call)). field_lines k (codes (note_of m₀) l)) (sym all_are);
      }
    where
      note : note_of m ≡ after (note_of m₀) fs
      note = (played-left fs m₀ m ok t.played).note

      number : field_line j (line_number d) ≡ field_line (k + length fs) (code_of (played (after (note_of m₀) fs) f))
      number = ap (λ (n : ℕ). field_line n (line_number d)) t.count ∙ ap (field_line (k + length fs)) (field-number m formed d m' f a ∙ ap (λ (N : Note). code_of (played N f)) note)

-- THEOREM: all that are whole.
pub fed : (m₀ m buf o₀ o : List ℕ) (k at put j : ℕ) (ended : Bool) → well_formed m₀ ≡ true → at ≤ length buf → put ≤ 50 * at → put + 20640 ≤ length o₀ → Taking m₀ m buf o k at put j ended
    → (ended ≡ false → Starved (drop at buf) ⊎ (length o₀ < put + 20690)) → Feeds m₀ m buf k o₀ o (record { used = at; k = j; ended = ended; put = put })
fed m₀ m buf o₀ o k at put j ended ok h each room t stops =
    record {
      used_le = h;
      whole = t.whole;
      does = replays m₀ m (take at buf) k j ok t.played t.count;
      lines = t.lines;
      each-le = each;
      room = room;
      stops = stops;
    }

-- what was done, by its case: a field lies within the buffer
module _ (m m' buf o o' : List ℕ) (at put j : ℕ) (r : Field) (h : at ≤ length buf) (d : Did m m' (take (length buf - at) (drop at buf)) j o o' put r) where
  there : Did m m' (drop at buf) j o o' put r
  there = subst (λ (l : List ℕ). Did m m' l j o o' put r) (part-all buf at) d

  within : (u : ℕ) → is_whole (drop at buf) ≡ true → u ≡ field_bytes (drop at buf) → (at + u ≤ length buf) × (3 ≤ u)
  within u w e = (omega (arith, whole_le (drop at buf) w, length-drop at buf), omega (arith, three-bytes (drop at buf)))

  pub as-listed : (u p : ℕ) → r ≡ Listed u p → Did m m' (drop at buf) j o o' put (Listed u p) × ((at + u ≤ length buf) × (3 ≤ u))
  as-listed u p e = let x : Did m m' (drop at buf) j o o' put (Listed u p) = subst (λ (y : Field). Did m m' (drop at buf) j o o' put y) e there in (x, within u x.1.0 x.1.1)

  pub as-bad : (u p : ℕ) → r ≡ Bad u p → Did m m' (drop at buf) j o o' put (Bad u p) × ((at + u ≤ length buf) × (3 ≤ u))
  as-bad u p e = let x : Did m m' (drop at buf) j o o' put (Bad u p) = subst (λ (y : Field). Did m m' (drop at buf) j o o' put y) e there in (x, within u x.0 x.1)

  pub as_short : r ≡ Short → Did m m' (drop at buf) j o o' put Short
  as_short e = subst (λ (y : Field). Did m m' (drop at buf) j o o' put y) e there
