-- What does not vary with the tree's shape: a run is a front part of the note from its place on, and a preview of the joined text, in whole
-- chars, and empty at the end alone; and a preview does not pass the insertion place.
use mathlib.Core.Path.{◌≡◌, sym, ap, subst, ◌∙◌}
use mathlib.Core.Bool.{true}
use mathlib.Core.List.{List, [], ◌++◌}
use Prim.Native.Nat.{ℕ, ◌+◌, ◌-◌, ◌≤◌, ◌<◌, min}
use native.Mathlib.Omega.{arith}
use lib.ListN.{length, take, drop, length-drop, take-append-drop}
use lib.Seq.{length-take-le, drop-drop, take-append-le, drop-append-le, drop-append-add}
use borrow.Author.Tests.{lt-ltb, le-ltb}
use Rattle.plain.specs.Chars.{encode}
use Rattle.plain.specs.Utf8.{valid_utf8, decode}
use Rattle.plain.specs.Count.{count_if}
use Rattle.plain.specs.Place.{is_start}
use Rattle.plain.specs.Edit.{put_in}
use Rattle.plain.specs.Outcome.{Outcome, Outcome.value, past, part, mapped}
use Rattle.plain.proofs.Logic.{cut}
use Rattle.plain.proofs.Outcome.{one-passed}
use Rattle.plain.proofs.Encode.{encode-take, encode-drop}
use Rattle.plain.proofs.Utf8.{valid-sound}
use Rattle.plain.proofs.Text.{chars-encode}
use Rattle.plain.proofs.Place.{byte-of-char}
use Rattle.plain.proofs.Edit.{replaced-length}
use Rattle.plain_note.specs.Note.{read_from, previewed}
use Rattle.note_head.specs.Head.{own_of}
use Rattle.memory.specs.Formed.{well_formed, note_of}
use Rattle.memory.proofs.Formed.{note-called}
use Rattle.leaf_parts.specs.Parts.{byte_in, from_char}
use Rattle.leaf_parts.specs.Front.{FrontChars}
use Rattle.leaf_parts.proofs.Fronts.{take_min, rest-inner, front-filled, front-empty}
use Rattle.leaf_parts.proofs.Notes.{note-chars}
use Rattle.runs.specs.Runs.{run_of, front_of, joined_from, preview_of}
use Rattle.runs.proofs.Says.{preview-says}

-- ── a text with a piece put in ──

front_same : {A : Type 0} (a r s : List A) (q k : ℕ) → q + k ≤ length a → take k (drop q (a ++ r)) ≡ take k (drop q (a ++ s))
front_same {A} a r s q k h = cuts r ∙ sym (cuts s)
  where
    cuts : (x : List A) → take k (drop q (a ++ x)) ≡ take k (drop q a)
    cuts x = ap (take k) (drop-append-le q a x (omega arith)) ∙ take-append-le k (drop q a) x (omega (arith, length-drop q a))

module _ (cs piece : List ℕ) (p q : ℕ) (h : p ≤ length cs) where
  -- below the insertion place it is as it was
  pub below-place : (k : ℕ) → q + k ≤ p → take k (drop q cs) ≡ take k (drop q (put_in p piece cs))
  below-place k l =
      ap (λ (x : List ℕ). take k (drop q x)) (sym (take-append-drop p cs))
      ∙ front_same (take p cs) (drop p cs) (piece ++ drop p cs) q k (omega (arith, length-take-le p cs h))

  -- behind the piece it is what was there, so many chars before
  pub behind-piece : p + length piece ≤ q → drop (q - length piece) cs ≡ drop q (put_in p piece cs)
  behind-piece l =
      let n = length-take-le p cs h in
      let one : q ≡ length (take p cs) + (q - p) = omega (arith, n) in
      let two : q - p ≡ length piece + (q - p - length piece) = omega arith in
      let three : p + (q - p - length piece) ≡ q - length piece = omega arith in
      sym (ap (λ (k : ℕ). drop k (put_in p piece cs)) one ∙ drop-append-add (take p cs) (piece ++ drop p cs) (q - p)
      ∙ ap (λ (k : ℕ). drop k (piece ++ drop p cs)) two ∙ drop-append-add piece (drop p cs) (q - p - length piece)
      ∙ drop-drop (q - p - length piece) p cs ∙ ap (λ (k : ℕ). drop k cs) three)

  pub put-length : length (put_in p piece cs) ≡ length cs + length piece
  put-length = omega (arith, replaced-length p p piece cs (omega arith) h)

-- the first n chars of a text's bytes
pub front-chars : (cs : List ℕ) (n : ℕ) → front_of n (encode cs) ≡ encode (take n cs)
front-chars cs n = ap (λ (k : ℕ). take k (encode cs)) (byte-of-char cs n) ∙ encode-take cs n

-- ── the parts ──

-- a part of the joined text, which ends at the insertion place at the latest where it begins below it
pub record PreviewFront (joined : List ℕ) (p q : ℕ) (part : List ℕ) : Type 0 where
  pub front : FrontChars joined q part
  pub ends : q < p → q + front.count ≤ p

module _ (m cs piece : List ℕ) (p q : ℕ) (front : (at : ℕ) → at ≤ length cs → FrontChars cs at (from_char m at)) (here : p ≤ length cs) (valid : valid_utf8 piece ≡ true)
    (in-range : q ≤ length (put_in p (decode piece) cs)) where
  abbrev d : List ℕ
  d = decode piece

  same : encode d ≡ piece
  same = (valid-sound piece valid).1

  count : count_if is_start piece ≡ length d
  count = ap (count_if is_start) (sym same) ∙ chars-encode d

  size : length (put_in p d cs) ≡ length cs + length d
  size = put-length cs d p q here

  below : q < p → PreviewFront (put_in p d cs) p q (front_of (p - q) (from_char m q))
  below h =
      let f = front q (omega arith) in
      let k = min (p - q) f.count in
      record {
        front = record {
          count = k;
          is = ap (front_of (p - q)) f.is ∙ front-chars (take f.count (drop q cs)) (p - q) ∙ ap encode (take_min (p - q) f.count (drop q cs) ∙ below-place cs d p q here k (omega arith));
          some = λ l. omega (arith, f.some (omega arith));
          room = omega (arith, f.room, size);
        };
        ends = λ l. omega arith;
      }

  within : p ≤ q → q - p < length d → PreviewFront (put_in p d cs) p q (drop (byte_in piece (q - p)) piece)
  within h l =
      let n = length-take-le p cs here in
      let z : q - length (take p cs) ≡ q - p = omega (arith, n) in
      record {
        front = record {
          count = length (take p cs) + length d - q;
          is = ap (λ (t : List ℕ). drop (byte_in t (q - p)) t) (sym same) ∙ ap (λ (k : ℕ). drop k (encode d)) (byte-of-char d (q - p)) ∙ encode-drop d (q - p)
              ∙ ap encode (ap (λ (k : ℕ). drop k d) (sym z) ∙ rest-inner (take p cs) d (drop p cs) q (omega (arith, n)) (omega (arith, n)));
          some = λ k. omega (arith, n);
          room = omega (arith, n, size);
        };
        ends = λ k. absurd (omega arith);
      }

  beyond : p ≤ q → length d ≤ q - p → PreviewFront (put_in p d cs) p q (from_char m (q - length d))
  beyond h l =
      let f = front (q - length d) (omega (arith, size)) in
      record {
        front = record {
          count = f.count;
          is = f.is ∙ ap (λ (t : List ℕ). encode (take f.count t)) (behind-piece cs d p q here (omega arith));
          some = λ k. f.some (omega (arith, size));
          room = omega (arith, f.room, size);
        };
        ends = λ k. absurd (omega arith);
      }

  pub joined-front : PreviewFront (put_in p d cs) p q (joined_from m p piece q)
  unfolding joined_from
  joined-front =
      cut q p (λ h. subst (λ (t : List ℕ). PreviewFront (put_in p d cs) p q t) (sym (rw (lt-ltb q p h))) (below h)) (λ h.
      cut (q - p) (length d)
      (λ l. subst (λ (t : List ℕ). PreviewFront (put_in p d cs) p q t) (sym (rw (le-ltb q p h, count, lt-ltb (q - p) (length d) l))) (within h l))
      (λ l. subst (λ (t : List ℕ). PreviewFront (put_in p d cs) p q t) (sym (rw (le-ltb q p h, count, le-ltb (q - p) (length d) l))) (beyond h l)))

-- ── THEOREMS: of a well-formed memory ──

module _ (m : List ℕ) (ok : well_formed m ≡ true) where
  pub run-front : (p : ℕ) → p ≤ length (note_of m).text → FrontChars (note_of m).text p (run_of m p)
  unfolding run_of read_from
  run-front p h =
      let e = note-called m (λ N. read_from N p) ok ∙ one-passed 3 (past p (length (note_of m).text)) (encode (drop p (note_of m).text)) (le-ltb (length (note_of m).text) p h) in
      subst (λ (o : Outcome (List ℕ)). FrontChars (note_of m).text p (part (mapped (λ t. from_char (own_of m) p) o))) (sym e) (note-chars m ok p h)

  pub preview-front : (p : ℕ) (piece : List ℕ) (q : ℕ) (t : List ℕ) → previewed (note_of m) p piece q ≡ value t
      → PreviewFront (put_in p (decode piece) (note_of m).text) p q (preview_of m p piece q)
  unfolding preview_of previewed
  preview-front p piece q t e =
      let says = preview-says (note_of m) p piece q t e in
      subst (λ (o : Outcome (List ℕ)). PreviewFront (put_in p (decode piece) (note_of m).text) p q (part (mapped (λ t. joined_from (own_of m) p piece q) o)))
      (sym (note-called m (λ N. previewed N p piece q) ok ∙ e))
      (joined-front (own_of m) (note_of m).text piece p q (note-chars m ok) says.here says.valid says.there)

  -- empty at the end, and there alone
  pub run-filled : (p : ℕ) → p < length (note_of m).text → 1 ≤ length (run_of m p)
  run-filled p h = front-filled (note_of m).text p (run_of m p) (run-front p (omega arith)) h

  pub run-empty : run_of m (length (note_of m).text) ≡ []
  run-empty = let n = length (note_of m).text in front-empty (note_of m).text n (run_of m n) (run-front n (omega arith)) (omega arith)

  module _ (p : ℕ) (piece : List ℕ) (q : ℕ) (t : List ℕ) (e : previewed (note_of m) p piece q ≡ value t) where
    pub preview-filled : q < length (put_in p (decode piece) (note_of m).text) → 1 ≤ length (preview_of m p piece q)
    preview-filled h = front-filled (put_in p (decode piece) (note_of m).text) q (preview_of m p piece q) (preview-front p piece q t e).front h

    pub preview-empty : q ≡ length (put_in p (decode piece) (note_of m).text) → preview_of m p piece q ≡ []
    preview-empty h = front-empty (put_in p (decode piece) (note_of m).text) q (preview_of m p piece q) (preview-front p piece q t e).front (omega arith)
