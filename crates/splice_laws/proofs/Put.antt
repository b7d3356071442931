-- A piece put in at a place of the note: its chars stand there afterwards.
use mathlib.Core.Path.{◌≡◌, refl, sym, ap, ◌∙◌}
use mathlib.Core.Logic.{inl, inr, ⊎_elim}
use mathlib.Core.Bool.{Bool, true, false, false≢true}
use mathlib.Core.List.{List, ◌++◌}
use Prim.Native.Nat.{ℕ, zero, suc, ◌+◌, ◌-◌, ◌≤◌}
use native.Mathlib.Omega.{arith}
use lib.ListN.{length, take}
use Rattle.plain.specs.Utf8.{valid_utf8, decode}
use Rattle.plain.specs.Count.{cr_last}
use Rattle.plain.specs.Edit.{put_in}
use Rattle.plain.specs.Outcome.{Outcome, Outcome.value}
use Rattle.plain_note.specs.Note.{limit}
use Rattle.text_info.specs.declared.TextSum.{TextSum}
use Rattle.child_search.specs.declared.Measure.{Measure}
use Rattle.child_search.specs.declared.Measure.TheVariants.{Bytes, Chars, Utf16, Breaks, CharEnds}
use Rattle.nodes.specs.Node.{text_of}
use Rattle.tree.specs.Tree.{least_root}
use Rattle.tree.proofs.Seams.{cr-none, cr-append}
use Rattle.tree_search.proofs.Parted.{Ends, ends}
use Rattle.note_head.specs.Head.{root_of, height_of}
use Rattle.memory.specs.Formed.{note_bytes}
use Rattle.leaf_parts.specs.Parts.{byte_in}
use Rattle.leaf_parts.proofs.Found.{text-is}
use Rattle.edit_steps.specs.Acts.{reading}
use Rattle.edit_steps.specs.Held.{Held, Kept}
use Rattle.descent.specs.declared.Part.TheVariants as Part·case
use Rattle.splices.specs.Splices.{spliced, byte_at, inner, put_at}
use Rattle.splice_laws.proofs.Spliced.{splice-held}
use Rattle.splice_laws.proofs.Texts.{byte-boundary, take-filled, drop-filled, front_bytes, chars-edited, size-edited}
use Rattle.splice_laws.proofs.Seams.{cr-encode, Seams, put-behind, put-after-cr}
use Rattle.splice_laws.proofs.Places.{Inside, first-or-more, by-chars, by-ends}

-- the search that an insertion goes by: that for the leaf with the CR before the place, if there is one, else that for the leaf with the char at it
abbrev pub Sided : Measure → List ℕ → ℕ → Type 0
Sided Bytes cs p = ⊥
Sided Chars cs p = cr_last (take p cs) ≡ false
Sided Utf16 cs p = ⊥
Sided Breaks cs p = ⊥
Sided CharEnds cs p = cr_last (take p cs) ≡ true

pub record PutHeld (m : List ℕ) (n : ℕ) (t : List ℕ) (by : Measure) (p : ℕ) (piece : List ℕ) : Type 0 where
  pub later : List ℕ
  pub new : List ℕ
  pub is : put_at m by p piece ≡ (value tt, later)
  pub held : Held later n new
  pub chars : decode new ≡ put_in p (decode piece) (decode t)
  pub size : length new ≡ length t + length piece
  pub kept : Kept m later

-- a place behind a CR is not the first
cr-place : (cs : List ℕ) (p : ℕ) → cr_last (take p cs) ≡ true → 1 ≤ p
cr-place cs zero e = absurd (false≢true (sym cr-none ∙ e))
cr-place cs (suc p) e = omega arith

module _ (m : List ℕ) (n : ℕ) (t : List ℕ) (note : Held m n t) (p : ℕ) (piece : List ℕ)
    (valid : valid_utf8 piece ≡ true) (small : length piece ≤ 256) (room : length t + length piece ≤ limit n + 1) where
  -- in the leaf that a search found, where its seams stay whole
  module _ (by : Measure) (r : Ends m (height_of m) (root_of m).slot by p) (at : Inside r.before (text_of m r.leaf) p (p - r.left.chars)) where
    abbrev leaf : List ℕ
    leaf = text_of m r.leaf

    abbrev q : ℕ
    q = p - r.left.chars

    abbrev j : ℕ
    j = byte_in leaf q

    whole : t ≡ r.before ++ (leaf ++ r.after)
    whole = sym note.bytes ∙ r.parted.whole

    old : Seams r.before leaf r.after
    old = record { front = r.parted.seam-before; back = r.parted.seam-after }

    put_is : put_at m by p piece ≡ spliced m by p (Part·case.Bytes j j) piece
    unfolding put_at
    put_is =
        ap (λ (o : Outcome (ℕ × TextSum)). reading m o (λ r. spliced m by p (Part·case.Bytes (byte_at m r (inner p r)) (byte_at m r (inner p r))) piece)) r.is
        ∙ ap (λ (l : List ℕ). spliced m by p (Part·case.Bytes (byte_in l q) (byte_in l q)) piece) (text-is m r.leaf r.parted.is_leaf)

    -- the last char before the place is that of the leaf's front part
    last-char : (e : Bool) → cr_last (take p (decode t)) ≡ e → cr_last (r.before ++ take j leaf) ≡ e
    last-char e h =
        ap cr_last (front_bytes r.before leaf r.after r.parted.valid-before r.parted.valid-leaf r.parted.valid-after q at.within)
        ∙ cr-encode (take (length (decode r.before) + q) (decode (r.before ++ (leaf ++ r.after))))
        ∙ ap (λ (k : ℕ). cr_last (take k (decode (r.before ++ (leaf ++ r.after))))) at.is
        ∙ ap (λ (l : List ℕ). cr_last (take p (decode l))) (sym whole) ∙ h

    put-there : Seams r.before (put_in j piece leaf) r.after → PutHeld m n t by p piece
    put-there s =
        let b = byte-boundary leaf r.parted.valid-leaf q at.within in
        let bytes : length (r.before ++ (put_in j piece leaf ++ r.after)) ≡ length t + length piece
        = omega (
          arith,
          size-edited r.before leaf r.after r.parted.valid-before r.parted.valid-leaf r.parted.valid-after piece valid q q (omega arith) at.within,
          ap length whole,
        ) in
        let o = splice-held m n t note by p r j j piece (omega arith) b b valid small (inr refl) s.front s.back (omega arith) in
        record {
          later = o.later;
          new = r.before ++ (put_in j piece leaf ++ r.after);
          is = put_is ∙ o.is;
          held = o.held;
          chars =
              chars-edited r.before leaf r.after r.parted.valid-before r.parted.valid-leaf r.parted.valid-after piece valid q q (omega arith) at.within
              ∙ ap (λ (k : ℕ). put_in k (decode piece) (decode (r.before ++ (leaf ++ r.after)))) at.is
              ∙ ap (λ (l : List ℕ). put_in p (decode piece) (decode l)) (sym whole);
          size = bytes;
          kept = o.kept;
        }

  -- THEOREM: a piece put in by the search that its place asks for
  pub put-held : (by : Measure) → Sided by (decode t) p → p ≤ length (decode t) → PutHeld m n t by p piece
  put-held Bytes side h = absurd side
  put-held Chars side h =
      let k : p ≤ length (decode (note_bytes m)) = omega (arith, ap (λ (l : List ℕ). length (decode l)) note.bytes) in
      let r = ends m Chars (height_of m) (root_of m).slot p (least_root (height_of m)) (omega arith) note.good k in
      let i = by-chars m (height_of m) (root_of m).slot p r.leaf r.left r.before r.after r.parted k in
      put-there Chars r i.0
      (put-behind r.before (text_of m r.leaf) r.after (old Chars r i.0) (byte_in (text_of m r.leaf) (p - r.left.chars)) piece (last-char Chars r i.0 false side)
      (⊎_elim (λ e. inl e) (λ l. inr (drop-filled (text_of m r.leaf) r.parted.valid-leaf (p - r.left.chars) l)) i.1))
  put-held Utf16 side h = absurd side
  put-held Breaks side h = absurd side
  put-held CharEnds side h =
      let k : p ≤ length (decode (note_bytes m)) = omega (arith, ap (λ (l : List ℕ). length (decode l)) note.bytes) in
      let r = ends m CharEnds (height_of m) (root_of m).slot p (least_root (height_of m)) (omega arith) note.good k in
      let i = by-ends m (height_of m) (root_of m).slot p r.leaf r.left r.before r.after r.parted k in
      let q : ℕ = p - r.left.chars in
      let some : 1 ≤ q = first-or-more r.before (text_of m r.leaf) p q i.0 (cr-place (decode t) p side) i.1 in
      let filled = take-filled (text_of m r.leaf) r.parted.valid-leaf q some i.0.within in
      put-there CharEnds r i.0
      (put-after-cr r.before (text_of m r.leaf) r.after (old CharEnds r i.0) (byte_in (text_of m r.leaf) q) piece
      (sym (cr-append r.before (take (byte_in (text_of m r.leaf) q) (text_of m r.leaf)) filled) ∙ last-char CharEnds r i.0 true side)
      filled)
