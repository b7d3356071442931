-- A leaf's bytes and its chars: the byte of an index is that of the place that it means, and the count at that byte is the place's.
use mathlib.Core.Path.{◌≡◌, refl, sym, ap, ◌∙◌}
use mathlib.Core.Bool.{Bool, true}
use mathlib.Core.List.{List}
use Prim.Native.Nat.{ℕ, ◌≤◌}
use native.Mathlib.Omega.{arith}
use lib.ListN.{length, take}
use lib.Seq.{length-take-le}
use Rattle.plain.specs.Chars.{encode}
use Rattle.plain.specs.Utf8.{valid_utf8, decode}
use Rattle.plain.specs.Count.{count_if, line_at, line_start}
use Rattle.plain.specs.Place.{is_start, is_wide, start_chars, start_units, place_of, floor_of, byte_at, count_at}
use Rattle.plain.proofs.Count.{start-le, line-drop}
use Rattle.plain.proofs.Encode.{encode-take}
use Rattle.plain.proofs.Place.{place-le, floor-encode, byte-of-char, byte-of-unit, start-encode}
use Rattle.plain.proofs.Text.{chars-encode, pairs-encode, units-pairs, line-encode}
use Rattle.plain.proofs.Utf8.{valid-sound}
use Rattle.plain_note.specs.Note.{place_by}
use Rattle.text_info.proofs.Counts.{count-le, breaks-le}
use Rattle.note_counts.specs.declared.Count.{Count}
use Rattle.note_counts.specs.declared.Count.TheVariants.{Bytes, Chars, Units, Lines}
use Rattle.note_counts.specs.Counts.{measure, byte_of, count_to}

-- ── on any bytes ──

pub chars-byte : (s : List ℕ) (i : ℕ) → place_of start_chars s i ≤ length s
chars-byte s i = place-le start_chars s i

pub units-byte : (s : List ℕ) (i : ℕ) → place_of start_units s i ≤ length s
units-byte s i = place-le start_units s i

pub lines-byte : (s : List ℕ) (i : ℕ) → line_start s i ≤ length s
lines-byte s i = start-le s i

module _ (s : List ℕ) (b : ℕ) where
  pub count-few : (p : ℕ → Bool) → b ≤ length s → count_if p (take b s) ≤ b
  count-few p h = omega (arith, count-le p (take b s), length-take-le b s h)

  pub lines-few : line_at s b ≤ length s
  lines-few = omega (arith, line-drop s b, breaks-le s)

-- ── on a text ──

module _ (s : List ℕ) (valid : valid_utf8 s ≡ true) where
  same : s ≡ encode (decode s)
  same = sym (valid-sound s valid).1

  byte-of-place : (by : Count) (i : ℕ) → byte_of by s i ≡ byte_at (decode s) (place_by (measure by) (decode s) i)
  unfolding place_by
  byte-of-place Bytes i = ap (λ (l : List ℕ). floor_of l i) same ∙ floor-encode (decode s) i
  byte-of-place Chars i = ap (λ (l : List ℕ). place_of start_chars l i) same ∙ byte-of-char (decode s) i
  byte-of-place Units i = ap (λ (l : List ℕ). place_of start_units l i) same ∙ byte-of-unit (decode s) i
  byte-of-place Lines i = ap (λ (l : List ℕ). line_start l i) same ∙ start-encode (decode s) i

  front : (p : ℕ) → take (byte_at (decode s) p) s ≡ encode (take p (decode s))
  front p = ap (take (byte_at (decode s) p)) same ∙ encode-take (decode s) p

  count-at-place : (to : Count) (p : ℕ) → count_to to s (byte_at (decode s) p) ≡ count_at (measure to) (decode s) p
  unfolding count_at
  count-at-place Bytes p = refl
  count-at-place Chars p = ap (count_if is_start) (front p) ∙ chars-encode (take p (decode s))
  count-at-place Units p =
      omega (arith, ap (count_if is_start) (front p) ∙ chars-encode (take p (decode s)), ap (count_if is_wide) (front p) ∙ pairs-encode (take p (decode s)), units-pairs (take p (decode s)))
  count-at-place Lines p = ap (λ (l : List ℕ). line_at l (byte_at (decode s) p)) same ∙ line-encode (decode s) p

  -- THEOREM: in a leaf
  pub turned-in : (from to : Count) (i b r : ℕ) → b ≡ byte_of from s i → r ≡ count_to to s b → r ≡ count_at (measure to) (decode s) (place_by (measure from) (decode s) i)
  turned-in from to i b r e f = f ∙ ap (count_to to s) (e ∙ byte-of-place from i) ∙ count-at-place to (place_by (measure from) (decode s) i)
