-- The bytes of a range of chars, copied part by part; and what the calls of this crate come to.
use Rattle.answer.specs.Answers.{Answer, outcome}
use Rattle.std.specs.Prelude.{Ok, Err}
use mathlib.Core.Path.{◌≡◌, refl, sym, ap, ◌∙◌}
use mathlib.Core.Bool.{true, false, ◌||◌}
use mathlib.Core.List.{List, [], ◌∷◌, ◌++◌}
use Prim.Native.Nat.{ℕ, ◌+◌, ◌-◌, ◌≤◌, ◌<◌, min}
use native.Mathlib.Omega.{arith}
use lib.ListN.{length, take, drop, length-append, length-take, length-drop}
use lib.Seq.{length-take-le, take_all, take-add, drop-drop}
use borrow.Author.Tests.{lt-ltb, le-ltb}
use Rattle.plain.specs.Chars.{encode}
use Rattle.plain.specs.Place.{bytes, byte_at}
use Rattle.plain.specs.Outcome.{Outcome, Outcome.value, ruled, past}
use Rattle.plain.proofs.Logic.{or_left, or_right, or-none}
use Rattle.plain.proofs.Outcome.{rule-applies, rule-passed, one-applies, one-passed}
use Rattle.plain.proofs.Encode.{encode-append, encode-take, encode-drop}
use Rattle.plain.proofs.Place.{byte_split}
use Rattle.plain_note.specs.Note.{between, copied}
use Rattle.answer.specs.declared.Refusal.{Refusal}
use Rattle.answer.specs.declared.Refusal.TheVariants.{Memory, Place, Output}
use Rattle.leaf_bytes.specs.Leaf.{laid, Leaf}
use Rattle.octets.specs.Over.{overlaid}
use Rattle.leaf_bytes.proofs.Laid.{laid_more}
use Rattle.leaf_bytes.proofs.Rules.{leaf-refused, leaf-done, leaf-same}
use Rattle.note_head.specs.Head.{root_of, own_of}
use Rattle.memory.specs.Formed.{well_formed, note_of, of_note}
use Rattle.memory.proofs.Formed.{note-called, note-refused}
use Rattle.leaf_parts.specs.Parts.{from_byte, byte_of}
use Rattle.leaf_parts.proofs.Fronts.{take_min}
use Rattle.leaf_parts.proofs.Notes.{told, note-bytes, note-byte}

-- ── parts of the bytes ──

module _ (m own : List ℕ) (i b : ℕ) (is : own ≡ own_of m) (x : List ℕ) (found : x ≡ from_byte own i) where
  pub upto-cut : take (b - i) x ≡ take (b - i) (from_byte (own_of m) i)
  upto-cut = ap (take (b - i)) (found ∙ ap (λ (l : List ℕ). from_byte l i) is)

  pub upto_all : length x ≤ b - i → x ≡ take (b - i) (from_byte (own_of m) i)
  upto_all h = sym (take_all (b - i) x h) ∙ upto-cut

-- a part of the note's bytes from i on, not beyond b, and not empty
pub record Step (bs : List ℕ) (i b : ℕ) (x : List ℕ) : Type 0 where
  pub is : x ≡ take (length x) (drop i bs)
  pub some : 1 ≤ length x
  pub room : i + length x ≤ b

pub steps : (m : List ℕ) → well_formed m ≡ true → (i b : ℕ) → i < b → b ≤ bytes (note_of m).text → (x : List ℕ) → x ≡ take (b - i) (from_byte (own_of m) i)
    → Step (encode (note_of m).text) i b x
steps m ok i b h k x e =
    let f = note-bytes m ok i (omega arith) in
    let part = from_byte (own_of m) i in
    let size : length x ≡ min (b - i) (length part) = ap length e ∙ length-take (b - i) part in
    record {
      is = e ∙ ap (take (b - i)) f.is ∙ take_min (b - i) (length part) (drop i (encode (note_of m).text)) ∙ ap (λ (j : ℕ). take j (drop i (encode (note_of m).text))) (sym size);
      some = omega (arith, size, f.some (omega arith));
      room = omega (arith, size);
    }

-- ── the loop: what was copied, and one part more ──

pub copied_none : (out bs : List ℕ) (a : ℕ) → out ≡ laid out (take (a - a) (drop a bs))
copied_none out bs a = let z : a - a ≡ 0 = omega arith in sym (ap (λ (k : ℕ). laid out (take k (drop a bs))) z)

pub copied_more : (first out bs x : List ℕ) (a i : ℕ) → a ≤ i → i + length x ≤ length bs → out ≡ laid first (take (i - a) (drop a bs)) → x ≡ take (length x) (drop i bs)
    → overlaid (i - a) x out ≡ laid first (take (i + length x - a) (drop a bs))
copied_more first out bs x a i h k e f =
    let size : length (take (i - a) (drop a bs)) ≡ i - a = length-take-le (i - a) (drop a bs) (omega (arith, length-drop a bs)) in
    let sum : i - a + length x ≡ i + length x - a = omega arith in
    let back : a + (i - a) ≡ i = omega arith in
    let whole : take (i - a) (drop a bs) ++ x ≡ take (i + length x - a) (drop a bs) =
    ap (λ (l : List ℕ). take (i - a) (drop a bs) ++ l) (f ∙ ap (λ (j : ℕ). take (length x) (drop j bs)) (sym back) ∙ ap (take (length x)) (sym (drop-drop (i - a) a bs)))
    ∙ sym (take-add (i - a) (length x) (drop a bs)) ∙ ap (λ (j : ℕ). take j (drop a bs)) sum in
    ap (λ (l : List ℕ). overlaid (i - a) x l) e
    ∙ ap (λ (j : ℕ). overlaid j x (laid first (take (i - a) (drop a bs)))) (sym size)
    ∙ laid_more first (take (i - a) (drop a bs)) x
    ∙ ap (laid first) whole

-- ── the bytes of a range ──

module _ (cs : List ℕ) (s e : ℕ) (h : s ≤ e) where
  pub bytes-between : byte_at cs e ≡ byte_at cs s + bytes (between s e cs)
  bytes-between =
      let z : e ≡ s + (e - s) = omega arith in
      ap (byte_at cs) z ∙ ap bytes (take-add s (e - s) cs) ∙ ap length (encode-append (take s cs) (take (e - s) (drop s cs)))
      ∙ length-append (encode (take s cs)) (encode (take (e - s) (drop s cs)))

  pub range-is : take (byte_at cs e - byte_at cs s) (drop (byte_at cs s) (encode cs)) ≡ encode (between s e cs)
  range-is =
      let z : byte_at cs e - byte_at cs s ≡ byte_at (drop s cs) (e - s) = omega (arith, bytes-between) in
      ap (take (byte_at cs e - byte_at cs s)) (encode-drop cs s) ∙ ap (λ (k : ℕ). take k (encode (drop s cs))) z ∙ encode-take (drop s cs) (e - s)

  pub byte-in-range : byte_at cs e ≤ bytes cs
  byte-in-range = omega (arith, byte_split cs e)

-- ── the byte of a place ──

module _ (m own : List ℕ) (p : ℕ) (ok : well_formed m ≡ true) (h : p ≤ length (note_of m).text) (is : own ≡ own_of m) (r : Answer ℕ) (found : outcome r ≡ byte_of own p) where
  pub byte-there : outcome r ≡ value (byte_at (note_of m).text p)
  byte-there = found ∙ ap (λ (l : List ℕ). byte_of l p) is ∙ note-byte m ok p h

  pub byte-is : (b : ℕ) → r ≡ Ok b → b ≡ byte_at (note_of m).text p
  byte-is b e = let z : value b ≡ value (byte_at (note_of m).text p) = sym (ap outcome e) ∙ byte-there in cc

  pub byte-refused : (q : Refusal) → r ≡ Err q → ⊥
  byte-refused q e =
      let z : outcome (Err q) ≡ value (byte_at (note_of m).text p) = sym (ap outcome e) ∙ byte-there in
      let w : ◌≡◌ {A = ℕ} 0 1 = cc in
      omega arith

-- ── what the calls come to ──

module _ (m : List ℕ) (s e : ℕ) (out : List ℕ) where
  abbrev text : List ℕ
  text = (note_of m).text

  abbrev Short : Outcome (List ℕ)
  Short = ruled ((9, past (bytes (between s e text)) (length out)) ∷ []) (encode (between s e text))

  abbrev Called : Outcome (List ℕ)
  Called = of_note m (λ N. copied N s e (length out))

  module _ (h : s ≤ e) (a b : ℕ) (a-is : a ≡ byte_at text s) (b-is : b ≡ byte_at text e) where
    pub range_size : b - a ≡ bytes (between s e text)
    range_size = omega (arith, bytes-between text s e h)

    pub out-short : length out < b - a → Leaf Short out (Err Output) out
    out-short k = leaf-refused Short out (Err Output) 9 (one-applies 9 (past (bytes (between s e text)) (length out)) (encode (between s e text)) (lt-ltb (length out) _ (omega (arith, range_size)))) refl

    pub out-done : b - a ≤ length out → (after : List ℕ) → after ≡ laid out (take (b - a) (drop a (encode text))) → Leaf Short out (Ok (b - a)) after
    out-done k after f =
        let same : take (b - a) (drop a (encode text)) ≡ encode (between s e text) =
        ap (λ (j : ℕ). take (b - j) (drop j (encode text))) a-is ∙ ap (λ (j : ℕ). take (j - byte_at text s) (drop (byte_at text s) (encode text))) b-is ∙ range-is text s e h in
        leaf-done Short out (Ok (b - a)) (encode (between s e text)) after
        (one-passed 9 (past (bytes (between s e text)) (length out)) (encode (between s e text)) (le-ltb (length out) _ (omega (arith, range_size))))
        (ap (λ (k : ℕ). value k) range_size) (f ∙ ap (laid out) same)

  pub out-2 : well_formed m ≡ false → Leaf Called out (Err Memory) out
  out-2 f = leaf-refused Called out (Err Memory) 2 (note-refused m (λ N. copied N s e (length out)) f) refl

  module _ (ok : well_formed m ≡ true) where
    out-place : (past s e || past e (length text)) ≡ true → Leaf Called out (Err Place) out
    unfolding copied
    out-place f =
        leaf-refused Called out (Err Place) 3
        (note-called m (λ N. copied N s e (length out)) ok
        ∙ rule-applies 3 (past s e || past e (length text)) ((9, past (bytes (between s e text)) (length out)) ∷ []) (encode (between s e text)) f) refl

    pub out-above : e < s → Leaf Called out (Err Place) out
    out-above h = out-place (or_left (past s e) (past e (length text)) (lt-ltb e s h))

    module _ (k : ℕ) (stored : k ≡ (root_of m).info.chars) where
      pub chars-are : k ≡ length text
      chars-are = stored ∙ (told m ok).chars-told

      pub out-past : k < e → Leaf Called out (Err Place) out
      out-past h = out-place (or_right (past s e) (past e (length text)) (lt-ltb (length text) e (omega (arith, chars-are))))

      pub out-copied : s ≤ e → e ≤ k → (r : Answer ℕ) (after : List ℕ) → Leaf Short out r after → Leaf Called out r after
      unfolding copied
      out-copied h l r after w =
          leaf-same Short out r Called after
          (sym (note-called m (λ N. copied N s e (length out)) ok
          ∙ rule-passed 3 (past s e || past e (length text)) ((9, past (bytes (between s e text)) (length out)) ∷ []) (encode (between s e text))
          (or-none (past s e) (past e (length text)) (le-ltb e s h) (le-ltb (length text) e (omega (arith, chars-are)))))) w
