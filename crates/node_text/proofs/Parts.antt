-- A text edited between its chars, and a text cut in two: at a gap between chars, and at a break.
use mathlib.Core.Path.{◌≡◌, refl, sym, ap, ◌∙◌}
use mathlib.Core.Bool.{Bool, true, false, ◌&&◌, false≢true}
use mathlib.Core.List.{List, [], ◌∷◌, ◌++◌}
use Prim.Native.Nat.{ℕ, ◌+◌, ◌-◌, ◌≤◌}
use native.Mathlib.Omega.{arith}
use lib.ListN.{length, take, drop, take-append-drop}
use borrow.Author.Tests.{lt-ltb, le-ltb, ne_eqb}
use Rattle.plain.specs.Utf8.{valid_utf8, decode}
use Rattle.plain.specs.Count.{bit, count_if, lf_first, cr_last, breaks}
use Rattle.plain.specs.Place.{is_pair, byte_at, place_of, place_of_byte, is_boundary, Measure, Measure.byte, Measure.char, Measure.unit, Measure.line, count_of}
use Rattle.plain.specs.Edit.{replaced}
use Rattle.plain.proofs.Logic.{cut}
use Rattle.plain.proofs.Utf8.{valid-sound, valid-append}
use Rattle.plain.proofs.Count.{count-append, breaks-append}
use Rattle.plain.proofs.Text.{breaks-encode}
use Rattle.plain.proofs.Place.{boundary-out, boundary-place, valid-split}
use Rattle.plain.proofs.Edit.{parted, counts-append}
use Rattle.crlf.specs.Break.{is_break}
use Rattle.crlf.proofs.Breaks.{valid-break, break-seam}

-- past the end is no gap
pub boundary-le : (s : List ℕ) (i : ℕ) → is_boundary s i ≡ true → i ≤ length s
boundary-le s i b =
    cut (length s) i
    (λ h. absurd (false≢true (sym (boundary-out s i (omega arith) (omega arith) ∙ ne_eqb i (length s) (omega arith)) ∙ b))) (λ h. h)

-- places stand in the order of their bytes
pub places-order : (w : ℕ → ℕ) (xs : List ℕ) (i j : ℕ) → i ≤ j → place_of w xs i ≤ place_of w xs j
unfolding place_of
places-order w [] i j h = omega arith
places-order w (x ∷ xs) i j h =
    cut i (w x) (λ k. rw (lt-ltb i (w x) k) (omega arith)) (λ k.
    rw (le-ltb i (w x) k, le-ltb j (w x) (omega arith)) (omega (arith, places-order w xs (i - w x) (j - w x) (omega arith))))

-- ── an edit between chars ──

module _ (leaf : List ℕ) (v : valid_utf8 leaf ≡ true) where
  -- a gap is the byte of its place
  pub gap-place : (i : ℕ) → is_boundary leaf i ≡ true → byte_at (decode leaf) (place_of_byte (decode leaf) i) ≡ i
  gap-place i b =
      let same = (valid-sound leaf v).1 in
      boundary-place (decode leaf) i (rw same (boundary-le leaf i b)) (rw same b)

  -- THEOREM: an edit between chars leaves a text, and its chars are edited at the places of the bytes
  pub replaced-text : (s e : ℕ) (piece : List ℕ) → is_boundary leaf s ≡ true → is_boundary leaf e ≡ true → valid_utf8 piece ≡ true
      → (valid_utf8 (replaced s e piece leaf) ≡ true)
      × (decode (replaced s e piece leaf) ≡ replaced (place_of_byte (decode leaf) s) (place_of_byte (decode leaf) e) (decode piece) (decode leaf))
  replaced-text s e piece b c w =
      let front = valid-split leaf s v (boundary-le leaf s b) b in
      let back = valid-split leaf e v (boundary-le leaf e c) c in
      let rest = valid-append piece (drop e leaf) w back.1 in
      let all = valid-append (take s leaf) (piece ++ drop e leaf) front.0 rest.0 in
      (all.0, all.1 ∙ cc (front.2, rest.1, back.3))

-- ── a text in two parts ──

-- two texts that make one when joined
pub record Joined (t l r : List ℕ) : Type 0 where
  pub text : l ++ r ≡ t
  pub left-valid : valid_utf8 l ≡ true
  pub right_valid : valid_utf8 r ≡ true
  pub chars : decode t ≡ decode l ++ decode r

-- two that part no CR from its LF either, so that every count adds up
pub record Parted (t l r : List ℕ) : Type 0 where
  pub joined : Joined t l r
  pub seam : (cr_last l && lf_first r) ≡ false
  pub char-seam : (cr_last (decode l) && lf_first (decode r)) ≡ false
  pub counts : (m : Measure) → count_of m (decode t) ≡ count_of m (decode l) + count_of m (decode r)
  pub pairs : count_if is_pair (decode t) ≡ count_if is_pair (decode l) + count_if is_pair (decode r)

module _ (l r : List ℕ) (v : valid_utf8 l ≡ true) (w : valid_utf8 r ≡ true) where
  -- line breaks over chars are those over bytes
  chars-breaks : (s : List ℕ) → valid_utf8 s ≡ true → breaks (decode s) ≡ breaks s
  chars-breaks s u = sym (breaks-encode (decode s)) ∙ ap breaks (valid-sound s u).1

  -- so a seam that parts no CR from its LF in bytes parts none in chars
  seam-chars : (cr_last l && lf_first r) ≡ false → (cr_last (decode l) && lf_first (decode r)) ≡ false
  seam-chars e =
      let both = valid-append l r v w in
      no-bit (cr_last (decode l) && lf_first (decode r))
      (omega (arith, breaks-append l r, ap bit e, breaks-append (decode l) (decode r), ap breaks both.1, chars-breaks l v, chars-breaks r w, chars-breaks (l ++ r) both.0))
    where
      no-bit : (t : Bool) → bit t ≡ 0 → t ≡ false
      no-bit true h = absurd (omega arith)
      no-bit false h = refl

  -- THEOREM: joined they are one text, and where the seam parts no CR from its LF, every count adds up
  pub texts-joined : Joined (l ++ r) l r
  texts-joined = record { text = refl; left-valid = v; right_valid = w; chars = (valid-append l r v w).1 }

  pub texts-parted : (cr_last l && lf_first r) ≡ false → Parted (l ++ r) l r
  texts-parted e =
      let same = (valid-append l r v w).1 in
      record {
        joined = texts-joined;
        seam = e;
        char-seam = seam-chars e;
        counts = λ m. omega (arith, ap (count_of m) same, counts-append m (decode l) (decode r), none m);
        pairs = ap (count_if is_pair) same ∙ count-append is_pair (decode l) (decode r);
      }
    where
      none : (m : Measure) → parted m (decode l) (decode r) ≡ 0
      none byte = refl
      none char = refl
      none unit = refl
      none line = ap bit (seam-chars e)

module _ (t : List ℕ) (p : ℕ) (v : valid_utf8 t ≡ true) where
  -- THEOREM: at a gap between chars a text is cut into two texts
  pub cut-joined : is_boundary t p ≡ true → Joined t (take p t) (drop p t)
  cut-joined b =
      let s = valid-split t p v (boundary-le t p b) b in
      rw take-append-drop at (texts-joined (take p t) (drop p t) s.0 s.1)

  -- THEOREM: at a break it is cut into two that part no CR from its LF
  pub cut-parted : p ≤ length t → is_break t p ≡ true → Parted t (take p t) (drop p t)
  cut-parted h e =
      let s = valid-break t p v h e in
      rw take-append-drop at (texts-parted (take p t) (drop p t) s.0 s.1 (break-seam t p h e))
