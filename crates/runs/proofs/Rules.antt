-- What the calls of this crate come to, from what those below answered.
use Rattle.std.specs.Prelude.{Ok, Err}
use mathlib.Core.Path.{◌≡◌, refl, sym, ap, ◌∙◌}
use mathlib.Core.Bool.{Bool, true, false}
use mathlib.Core.List.{List, [], ◌∷◌}
use Prim.Native.Nat.{ℕ, ◌+◌, ◌-◌, ◌≤◌, ◌<◌}
use native.Mathlib.Omega.{arith}
use lib.Dec.{ltb}
use lib.ListN.{length, drop}
use borrow.Author.Tests.{lt-ltb, le-ltb}
use Rattle.plain.specs.Chars.{encode}
use Rattle.plain.specs.Utf8.{valid_utf8, decode}
use Rattle.plain.specs.Count.{count_if}
use Rattle.plain.specs.Place.{is_start}
use Rattle.plain.specs.Edit.{put_in}
use Rattle.plain.specs.Outcome.{Outcome, Outcome.value, Outcome.refused, Rule, ruled, past, part, mapped}
use Rattle.plain.proofs.Logic.{cut}
use Rattle.plain.proofs.Outcome.{one-applies, one-passed, more-refused, more-passed}
use Rattle.plain.proofs.Edit.{replaced-length}
use Rattle.plain.proofs.Text.{chars-encode}
use Rattle.plain.proofs.Utf8.{valid-sound}
use Rattle.plain_note.specs.Note.{Note, insert_rules, piece_most, read_from, previewed}
use Rattle.answer.specs.Answers.{refusal_number, Answer, outcome}
use Rattle.answer.specs.declared.Refusal.{Refusal}
use Rattle.note_head.specs.Head.{root_of, own_of}
use Rattle.memory.specs.Formed.{well_formed, note_of, of_note}
use Rattle.memory.proofs.Formed.{note-called, note-refused, note-accepted}
use Rattle.leaf_parts.specs.Parts.{byte_in, from_char}
use Rattle.plain_note.proofs.Edits.{insert-says}
use Rattle.edit_rules.proofs.Rules.{chars-are}
use Rattle.runs.specs.Runs.{run_of, front_of, joined_from, preview_of}

-- ── any call and its companion ──

abbrev pub Said : {A : Type 0} → Outcome A → Outcome (Unit {0})
Said o = mapped (λ t. tt) o

-- not well formed
pub said-2 : {A : Type 0} (m : List ℕ) (f : Note → Outcome A) → well_formed m ≡ false → refused 2 ≡ Said (of_note m f)
said-2 m f e = sym (ap (λ o. Said o) (note-refused m f e))

-- what a call hands out, by what its companion answered
module _ (v : Answer (Unit {0})) (x : List ℕ) where
  pub part_none : (o : Outcome (List ℕ)) (q : Refusal) → outcome v ≡ Said o → v ≡ Err q → ◌≡◌ {A = List ℕ} [] (part (mapped (λ t. x) o))
  part_none (value a) q p e = absurd (let z : refused (refusal_number q) ≡ value tt = sym (ap outcome e) ∙ p in let w : ◌≡◌ {A = ℕ} 0 1 = cc in omega arith)
  part_none (refused n) q p e = refl

  pub part-some : (o : Outcome (List ℕ)) → outcome v ≡ Said o → v ≡ (Ok tt) → part (mapped (λ t. x) o) ≡ x
  part-some (value a) p e = refl
  part-some (refused n) p e = absurd (let z : value tt ≡ refused n = sym (ap outcome e) ∙ p in let w : ◌≡◌ {A = ℕ} 0 1 = cc in omega arith)

-- ── runs ──

module _ (m : List ℕ) (p : ℕ) where
  module _ (ok : well_formed m ≡ true) (k : ℕ) (stored : k ≡ (root_of m).info.chars) where
    pub run_past : k < p → refused 3 ≡ Said (of_note m (λ N. read_from N p))
    unfolding read_from
    run_past h =
        sym (ap (λ o. Said o) (note-called m (λ N. read_from N p) ok ∙ one-applies 3 (past p (length (note_of m).text)) (encode (drop p (note_of m).text)) (lt-ltb _ p (omega (arith, chars-are m ok k stored)))))

    pub run-fine : p ≤ k → value tt ≡ Said (of_note m (λ N. read_from N p))
    unfolding read_from
    run-fine h =
        sym (ap (λ o. Said o) (note-called m (λ N. read_from N p) ok ∙ one-passed 3 (past p (length (note_of m).text)) (encode (drop p (note_of m).text)) (le-ltb _ p (omega (arith, chars-are m ok k stored)))))

  module _ (v : Answer (Unit {0})) (said : outcome v ≡ Said (of_note m (λ N. read_from N p))) where
    pub run_none : (q : Refusal) → v ≡ Err q → ◌≡◌ {A = List ℕ} [] (run_of m p)
    unfolding run_of
    run_none q e = part_none v (from_char (own_of m) p) (of_note m (λ N. read_from N p)) q said e

    pub run-some : v ≡ (Ok tt) → (own x : List ℕ) → own ≡ own_of m → x ≡ from_char own p → x ≡ run_of m p
    unfolding run_of
    run-some e own x f g = g ∙ ap (λ (l : List ℕ). from_char l p) f ∙ sym (part-some v (from_char (own_of m) p) (of_note m (λ N. read_from N p)) said e)

-- ── previews ──

module _ (m piece : List ℕ) (p q : ℕ) where
  abbrev Preview : Outcome (List ℕ)
  Preview = of_note m (λ N. previewed N p piece q)

  abbrev last : List Rule
  last = (3, past q (length (put_in p (decode piece) (note_of m).text))) ∷ []

  abbrev joined : List ℕ
  joined = encode (drop q (put_in p (decode piece) (note_of m).text))

  pub joined_length : p ≤ length (note_of m).text → valid_utf8 piece ≡ true → length (put_in p (decode piece) (note_of m).text) ≡ length (note_of m).text + count_if is_start piece
  joined_length h e =
      let count : count_if is_start piece ≡ length (decode piece) = ap (count_if is_start) (sym (valid-sound piece e).1) ∙ chars-encode (decode piece) in
      omega (arith, count, replaced-length p p (decode piece) (note_of m).text (omega arith) h)

  module _ (v : Answer (Unit {0})) (insert : outcome v ≡ of_note m (λ N. ruled (insert_rules piece_most N p piece) (tt {0}))) where
    refused-so : well_formed m ≡ true → (r : Refusal) → v ≡ Err r → of_note m (λ N. previewed N p piece q) ≡ refused (refusal_number r)
    unfolding previewed
    refused-so ok r e =
        note-called m (λ N. previewed N p piece q) ok
        ∙ more-refused (insert_rules piece_most (note_of m) p piece) last (tt {0}) joined (refusal_number r)
        (sym (note-called m (λ N. ruled (insert_rules piece_most N p piece) (tt {0})) ok) ∙ sym insert ∙ ap outcome e)

    pub preview-refused : (r : Refusal) → v ≡ Err r → outcome v ≡ Said (of_note m (λ N. previewed N p piece q))
    preview-refused r e = go (well_formed m) refl
      where
        go : (t : Bool) → well_formed m ≡ t → outcome v ≡ Said (of_note m (λ N. previewed N p piece q))
        go true ok = ap outcome e ∙ sym (ap (λ o. Said o) (refused-so ok r e))
        go false w = insert ∙ note-refused m (λ N. ruled (insert_rules piece_most N p piece) (tt {0})) w ∙ said-2 m (λ N. previewed N p piece q) w

    module _ (fine : v ≡ (Ok tt)) (k n : ℕ) (stored : k ≡ (root_of m).info.chars) (count : n ≡ count_if is_start piece) where
      accepts : (well_formed m ≡ true) × (ruled (insert_rules piece_most (note_of m) p piece) (tt {0}) ≡ value (tt {0}))
      accepts = note-accepted m (λ N. ruled (insert_rules piece_most N p piece) (tt {0})) (tt {0}) (sym insert ∙ ap outcome fine)

      passed : of_note m (λ N. previewed N p piece q) ≡ ruled last joined
      unfolding previewed
      passed = note-called m (λ N. previewed N p piece q) accepts.0 ∙ more-passed (insert_rules piece_most (note_of m) p piece) last (tt {0}) (tt {0}) joined accepts.1

      size : length (put_in p (decode piece) (note_of m).text) ≡ k + n
      size =
          let s = insert-says (note_of m) p piece (tt {0}) (tt {0}) accepts.1 in
          omega (arith, joined_length s.here s.valid, chars-are m accepts.0 k stored, count)

      pub preview-past : (t : Bool) → t ≡ past q (k + n) → t ≡ true → refused 3 ≡ Said (of_note m (λ N. previewed N p piece q))
      preview-past t e h = sym (ap (λ o. Said o) (passed ∙ one-applies 3 (past q (length (put_in p (decode piece) (note_of m).text))) joined (ap (λ (x : ℕ). past q x) size ∙ sym e ∙ h)))

      pub preview-fine : (t : Bool) → t ≡ past q (k + n) → t ≡ false → value (tt {0}) ≡ Said (of_note m (λ N. previewed N p piece q))
      preview-fine t e h = sym (ap (λ o. Said o) (passed ∙ one-passed 3 (past q (length (put_in p (decode piece) (note_of m).text))) joined (ap (λ (x : ℕ). past q x) size ∙ sym e ∙ h)))

  module _ (v : Answer (Unit {0})) (said : outcome v ≡ Said (of_note m (λ N. previewed N p piece q))) where
    pub preview-none : (r : Refusal) → v ≡ Err r → ◌≡◌ {A = List ℕ} [] (preview_of m p piece q)
    unfolding preview_of
    preview-none r e = part_none v (joined_from (own_of m) p piece q) (of_note m (λ N. previewed N p piece q)) r said e

    pub preview-some : v ≡ (Ok tt) → (own x : List ℕ) → own ≡ own_of m → x ≡ joined_from own p piece q → x ≡ preview_of m p piece q
    unfolding preview_of
    preview-some e own x f g = g ∙ ap (λ (l : List ℕ). joined_from l p piece q) f ∙ sym (part-some v (joined_from (own_of m) p piece q) (of_note m (λ N. previewed N p piece q)) said e)

  -- of the note's own part m: below the insertion place, in the piece, and behind it
  pub join-below : q < p → (t x : List ℕ) → t ≡ from_char m q → x ≡ front_of (p - q) t → x ≡ joined_from m p piece q
  unfolding joined_from
  join-below h t x e f = f ∙ ap (front_of (p - q)) e ∙ sym (rw (lt-ltb q p h))

  module _ (h : p ≤ q) (n : ℕ) (count : n ≡ count_if is_start piece) where
    pub join-in : q - p < n → (k : ℕ) → k ≡ byte_in piece (q - p) → (x : List ℕ) → x ≡ drop k piece → x ≡ joined_from m p piece q
    unfolding joined_from
    join-in l k e x f = f ∙ ap (λ (j : ℕ). drop j piece) e ∙ sym (rw (le-ltb q p h, lt-ltb (q - p) (count_if is_start piece) (omega arith)))

    pub join-behind : n ≤ q - p → (x : List ℕ) → x ≡ from_char m (q - n) → x ≡ joined_from m p piece q
    unfolding joined_from
    join-behind l x f = f ∙ ap (λ (j : ℕ). from_char m (q - j)) count ∙ sym (rw (le-ltb q p h, le-ltb (q - p) (count_if is_start piece) (omega arith)))

-- a place past two texts joined
pub past_first : (a b q : ℕ) → q < a → false ≡ past q (a + b)
past_first a b q h = sym (le-ltb (a + b) q (omega arith))

pub past-second : (a b q : ℕ) → a ≤ q → ltb b (q - a) ≡ past q (a + b)
past-second a b q h = cut b (q - a) (λ k. lt-ltb b (q - a) k ∙ sym (lt-ltb (a + b) q (omega arith))) (λ k. le-ltb b (q - a) k ∙ sym (le-ltb (a + b) q (omega arith)))
