-- The parts of the leaves of a well-formed memory, and the counts that its head says.
use mathlib.Core.Path.{◌≡◌, sym, ap, subst, ◌∙◌}
use mathlib.Core.Bool.{true}
use mathlib.Core.List.{List}
use Prim.Native.Nat.{ℕ, ◌≤◌}
use native.Mathlib.Omega.{arith}
use lib.Dec.{eqb}
use lib.ListN.{length}
use borrow.Author.Tests.{eqb-true}
use Rattle.plain.specs.Chars.{encode}
use Rattle.plain.specs.Utf8.{decode}
use Rattle.plain.specs.Place.{bytes, byte_at}
use Rattle.plain.specs.Outcome.{Outcome.value}
use Rattle.plain.proofs.Logic.{and_left, and_right}
use Rattle.pool.specs.declared.Kid.{Kid}
use Rattle.tree.specs.Tree.{bytes_below, told_right}
use Rattle.note_head.specs.Head.{n_of, root_of, height_of, own_of}
use Rattle.note_head.proofs.Own.{own-n, own_root}
use Rattle.memory.specs.Formed.{note_bytes, well_formed, note_of}
use Rattle.memory.proofs.Formed.{formed}
use Rattle.leaf_parts.specs.Parts.{from_char, from_byte, byte_of}
use Rattle.leaf_parts.specs.Front.{FrontChars, FrontBytes}
use Rattle.leaf_parts.proofs.Fronts.{sound-bytes, from-char-front, from-byte-front, byte-of-is}

pub told-counts : (m : List ℕ) (h : ℕ) (k : Kid) → told_right m h k ≡ true
    → (k.info.bytes ≡ bytes (decode (bytes_below m h k.slot))) × (k.info.chars ≡ length (decode (bytes_below m h k.slot)))
unfolding told_right
told-counts m h k e = (
  eqb-true k.info.bytes _ (and_left (eqb k.info.bytes (bytes (decode (bytes_below m h k.slot)))) _ e),
  eqb-true k.info.chars _ (and_left (eqb k.info.chars (length (decode (bytes_below m h k.slot)))) _ (and_right (eqb k.info.bytes (bytes (decode (bytes_below m h k.slot)))) _ e)),
)

-- the head of a well-formed memory says the note's own counts
pub record Told (m : List ℕ) : Type 0 where
  pub bytes-told : (root_of m).info.bytes ≡ bytes (note_of m).text
  pub chars-told : (root_of m).info.chars ≡ length (note_of m).text
  pub slots-told : n_of m ≡ (note_of m).n

pub told : (m : List ℕ) → well_formed m ≡ true → Told m
told m ok =
    let k = told-counts (own_of m) (height_of (own_of m)) (root_of (own_of m)) (formed m ok).own.told in
    record {
      bytes-told = ap (λ (r : Kid). r.info.bytes) (sym (own_root m)) ∙ k.0;
      chars-told = ap (λ (r : Kid). r.info.chars) (sym (own_root m)) ∙ k.1;
      slots-told = sym (own-n m);
    }

-- ── THEOREMS: the parts of a well-formed memory ──

module _ (m : List ℕ) (ok : well_formed m ≡ true) where
  abbrev own : List ℕ
  own = own_of m

  abbrev text : List ℕ
  text = (note_of m).text

  pub note-chars : (at : ℕ) → at ≤ length (note_of m).text → FrontChars (note_of m).text at (from_char (own_of m) at)
  note-chars at h = from-char-front own (formed m ok).own.good at h

  whole : encode text ≡ note_bytes own
  whole = sound-bytes own (formed m ok).own.good

  pub note-bytes : (at : ℕ) → at ≤ bytes (note_of m).text → FrontBytes (encode (note_of m).text) at (from_byte (own_of m) at)
  note-bytes at h =
      subst (λ (bs : List ℕ). FrontBytes bs at (from_byte own at)) (sym whole)
      (from-byte-front own (formed m ok).own.good at (omega (arith, ap length whole)))

  pub note-byte : (at : ℕ) → at ≤ length (note_of m).text → byte_of (own_of m) at ≡ value (byte_at (note_of m).text at)
  note-byte at h = byte-of-is own (formed m ok).own.good at h
