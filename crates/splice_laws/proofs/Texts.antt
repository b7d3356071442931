-- A text in three parts, edited in the middle one: the bytes edited at the bytes of two chars are those of the text edited at these chars.
use mathlib.Core.Path.{◌≡◌, refl, sym, ap, ◌∙◌}
use mathlib.Core.Bool.{true}
use mathlib.Core.List.{List, [], ◌++◌, append_assoc}
use Prim.Native.Nat.{ℕ, ◌+◌, ◌≤◌, ◌<◌}
use native.Mathlib.Omega.{arith}
use lib.ListN.{length, take, drop, length-drop}
use lib.Seq.{length-take-le, take-take, take-append-le, drop-append-le, take-append-add, drop-append-add}
use Rattle.plain.specs.Chars.{all_scalar, encode}
use Rattle.plain.specs.Utf8.{valid_utf8, decode}
use Rattle.plain.specs.Place.{byte_at, is_boundary}
use Rattle.plain.specs.Edit.{replaced}
use Rattle.plain.proofs.Encode.{encode-append, encode-take, encode-drop, scalar-append, scalar-take, scalar-drop}
use Rattle.plain.proofs.Utf8.{valid-sound, decode-encode, valid-append}
use Rattle.plain.proofs.Place.{byte-of-char, byte_split, place-boundary}
use Rattle.plain.proofs.Edit.{replaced-encode, replaced-length}
use Rattle.leaf_parts.specs.Parts.{byte_in}
use Rattle.leaf_parts.proofs.Fronts.{length_three, chars-bytes}

-- ── a list in three parts, cut and edited in the middle one ──

module _ {A : Type 0} (b d a : List A) (i : ℕ) (in-range : i ≤ length d) where
  take-middle : take (length b + i) (b ++ (d ++ a)) ≡ b ++ take i d
  take-middle = take-append-add b (d ++ a) i ∙ ap (λ (l : List A). b ++ l) (take-append-le i d a in-range)

  drop-middle : drop (length b + i) (b ++ (d ++ a)) ≡ drop i d ++ a
  drop-middle = drop-append-add b (d ++ a) i ∙ drop-append-le i d a in-range

replaced-middle : {A : Type 0} (b d a new : List A) (i e : ℕ) → i ≤ length d → e ≤ length d
    → replaced (length b + i) (length b + e) new (b ++ (d ++ a)) ≡ b ++ (replaced i e new d ++ a)
replaced-middle {A} b d a new i e h k =
    ap (λ (l : List A). l ++ (new ++ drop (length b + e) (b ++ (d ++ a)))) (take-middle b d a i h)
    ∙ ap (λ (l : List A). (b ++ take i d) ++ (new ++ l)) (drop-middle b d a e k)
    ∙ simp append_assoc

scalar-replaced : (cs new : List ℕ) (i e : ℕ) → all_scalar cs ≡ true → all_scalar new ≡ true → all_scalar (replaced i e new cs) ≡ true
scalar-replaced cs new i e h k = scalar-append (take i cs) (new ++ drop e cs) (scalar-take cs i h) (scalar-append new (drop e cs) k (scalar-drop cs e h))

pub none-decoded : decode [] ≡ []
unfolding decode
none-decoded = refl

-- ── the bytes of one part ──

module _ (leaf : List ℕ) (valid : valid_utf8 leaf ≡ true) where
  same : encode (decode leaf) ≡ leaf
  same = (valid-sound leaf valid).1

  byte-in : (q : ℕ) → byte_in leaf q ≡ byte_at (decode leaf) q
  byte-in q = ap (λ (l : List ℕ). byte_in l q) (sym same) ∙ byte-of-char (decode leaf) q

  -- THEOREM: the byte of a char is a gap between chars
  pub byte-boundary : (q : ℕ) → q ≤ length (decode leaf) → is_boundary leaf (byte_in leaf q) ≡ true
  byte-boundary q h = rw (byte-in q) (rw same at (place-boundary (decode leaf) q h))

  byte-within : (q : ℕ) → byte_in leaf q ≤ length leaf
  byte-within q = omega (arith, byte-in q, byte_split (decode leaf) q, ap length same)

  -- THEOREM: bytes stand in the order of their chars
  pub byte-order : (q r : ℕ) → q ≤ r → byte_in leaf q ≤ byte_in leaf r
  byte-order q r h =
      omega (arith, byte-in q, byte-in r, byte_split (take r (decode leaf)) q, ap (λ (l : List ℕ). length (encode l)) (take-take q r (decode leaf) h))

  take-byte : (q : ℕ) → take (byte_in leaf q) leaf ≡ encode (take q (decode leaf))
  take-byte q = ap (λ (k : ℕ). take k leaf) (byte-in q) ∙ (rw same at (encode-take (decode leaf) q))

  drop-byte : (q : ℕ) → drop (byte_in leaf q) leaf ≡ encode (drop q (decode leaf))
  drop-byte q = ap (λ (k : ℕ). drop k leaf) (byte-in q) ∙ (rw same at (encode-drop (decode leaf) q))

  -- chars are not empty
  pub take-filled : (q : ℕ) → 1 ≤ q → q ≤ length (decode leaf) → 1 ≤ length (take (byte_in leaf q) leaf)
  take-filled q h k = omega (arith, ap length (take-byte q), chars-bytes (take q (decode leaf)), length-take-le q (decode leaf) k)

  pub drop-filled : (q : ℕ) → q < length (decode leaf) → 1 ≤ length (drop (byte_in leaf q) leaf)
  drop-filled q h = omega (arith, ap length (drop-byte q), chars-bytes (drop q (decode leaf)), length-drop q (decode leaf))

-- ── the bytes of three parts ──

module _ (before leaf after : List ℕ) (valid-before : valid_utf8 before ≡ true) (valid-leaf : valid_utf8 leaf ≡ true) (valid-after : valid_utf8 after ≡ true) where
  abbrev text : List ℕ
  text = before ++ (leaf ++ after)

  three-valid : valid_utf8 (before ++ (leaf ++ after)) ≡ true
  three-valid = (valid-append before (leaf ++ after) valid-before (valid-append leaf after valid-leaf valid-after).0).0

  three-chars : decode (before ++ (leaf ++ after)) ≡ decode before ++ (decode leaf ++ decode after)
  three-chars =
      let r = valid-append leaf after valid-leaf valid-after in
      (valid-append before (leaf ++ after) valid-before r.0).1 ∙ ap (λ (l : List ℕ). decode before ++ l) r.1

  three-encoded : (d : List ℕ) → encode (decode before ++ (d ++ decode after)) ≡ before ++ (encode d ++ after)
  three-encoded d =
      encode-append (decode before) (d ++ decode after) ∙ ap (λ (l : List ℕ). encode (decode before) ++ l) (encode-append d (decode after))
      ∙ rw (same before valid-before, same after valid-after) refl

  module _ (q : ℕ) (in-range : q ≤ length (decode leaf)) where
    -- the text up to a char of the middle part, and from it on
    pub front_bytes : before ++ take (byte_in leaf q) leaf ≡ encode (take (length (decode before) + q) (decode (before ++ (leaf ++ after))))
    front_bytes =
        sym (ap (λ (l : List ℕ). encode (take (length (decode before) + q) l)) three-chars
        ∙ ap encode (take-middle (decode before) (decode leaf) (decode after) q in-range)
        ∙ encode-append (decode before) (take q (decode leaf))
        ∙ ap (λ (l : List ℕ). l ++ encode (take q (decode leaf))) (same before valid-before)
        ∙ ap (λ (l : List ℕ). before ++ l) (sym (take-byte leaf valid-leaf q)))

    pub rest-bytes : drop (byte_in leaf q) leaf ++ after ≡ encode (drop (length (decode before) + q) (decode (before ++ (leaf ++ after))))
    rest-bytes =
        sym (ap (λ (l : List ℕ). encode (drop (length (decode before) + q) l)) three-chars
        ∙ ap encode (drop-middle (decode before) (decode leaf) (decode after) q in-range)
        ∙ encode-append (drop q (decode leaf)) (decode after)
        ∙ ap (λ (l : List ℕ). encode (drop q (decode leaf)) ++ l) (same after valid-after)
        ∙ ap (λ (l : List ℕ). l ++ after) (sym (drop-byte leaf valid-leaf q)))

  module _ (piece : List ℕ) (valid-piece : valid_utf8 piece ≡ true) (i e : ℕ) (order : i ≤ e) (in-range : e ≤ length (decode leaf)) where
    abbrev new : List ℕ
    new = replaced (length (decode before) + i) (length (decode before) + e) (decode piece) (decode text)

    new-leaf : replaced (byte_in leaf i) (byte_in leaf e) piece leaf ≡ encode (replaced i e (decode piece) (decode leaf))
    new-leaf = sym (replaced-encode i e (decode piece) (decode leaf) ∙ rw (same leaf valid-leaf, same piece valid-piece, sym (byte-in leaf valid-leaf i), sym (byte-in leaf valid-leaf e)) refl)

    -- the edited bytes are those of the edited text
    text-edited : before ++ (replaced (byte_in leaf i) (byte_in leaf e) piece leaf ++ after)
        ≡ encode (replaced (length (decode before) + i) (length (decode before) + e) (decode piece) (decode (before ++ (leaf ++ after))))
    text-edited =
        ap (λ (l : List ℕ). before ++ (l ++ after)) new-leaf
        ∙ sym (three-encoded (replaced i e (decode piece) (decode leaf)))
        ∙ ap encode (sym (replaced-middle (decode before) (decode leaf) (decode after) (decode piece) i e (omega arith) in-range))
        ∙ ap (λ (l : List ℕ). encode (replaced (length (decode before) + i) (length (decode before) + e) (decode piece) l)) (sym three-chars)

    new-scalar : all_scalar new ≡ true
    new-scalar =
        scalar-replaced (decode text) (decode piece) (length (decode before) + i) (length (decode before) + e) (valid-sound text three-valid).0 (valid-sound piece valid-piece).0

    -- THEOREM: the chars of the edited bytes
    pub chars-edited : decode (before ++ (replaced (byte_in leaf i) (byte_in leaf e) piece leaf ++ after))
        ≡ replaced (length (decode before) + i) (length (decode before) + e) (decode piece) (decode (before ++ (leaf ++ after)))
    chars-edited = ap decode text-edited ∙ decode-encode new new-scalar

    -- THEOREM: how many bytes there are
    pub size-edited : length (before ++ (replaced (byte_in leaf i) (byte_in leaf e) piece leaf ++ after)) + byte_in leaf e
        ≡ length (before ++ (leaf ++ after)) + length piece + byte_in leaf i
    size-edited =
        omega (
          arith,
          length_three before (replaced (byte_in leaf i) (byte_in leaf e) piece leaf) after,
          length_three before leaf after,
          replaced-length (byte_in leaf i) (byte_in leaf e) piece leaf (byte-order leaf valid-leaf i e order) (byte-within leaf valid-leaf e),
          byte-within leaf valid-leaf e,
        )
