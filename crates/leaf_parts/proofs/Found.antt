-- What the functions of this crate come to, from what those below answered.
use Rattle.std.specs.Prelude.{Ok, Err}
use mathlib.Core.Path.{◌≡◌, sym, ap, subst, ◌∙◌}
use mathlib.Core.Bool.{true, false}
use mathlib.Core.List.{List, []}
use Prim.Native.Nat.{ℕ, ◌+◌, ◌-◌, ◌*◌, ◌≤◌, ◌<◌}
use native.Mathlib.Omega.{arith}
use lib.ListN.{length, take, drop, length-drop}
use lib.Seq.{length-take-le}
use Rattle.plain.specs.Outcome.{Outcome, Outcome.value, Outcome.refused, part, mapped}
use Rattle.answer.specs.Answers.{refusal_number, Answer, outcome}
use Rattle.answer.specs.declared.Refusal.{Refusal}
use Rattle.text_info.specs.declared.TextSum.{TextSum}
use Rattle.pool.specs.Slot.{slot_start, len_of, region_of}
use Rattle.pool.specs.declared.Kid.{Kid}
use Rattle.child_search.specs.declared.Measure.{Measure}
use Rattle.child_search.specs.declared.Measure.TheVariants.{Bytes, Chars}
use Rattle.nodes.specs.Node.{is_leaf, text_of}
use Rattle.nodes.proofs.Laid.{text-lent}
use Rattle.tree_search.specs.Search.{leaf_at, Bounded}
use Rattle.note_head.specs.Head.{root_of, height_of}
use Rattle.leaf_parts.specs.Parts.{leaf_text, byte_in, spot_of, chars_behind, bytes_behind, start_of, from_char, from_byte, byte_of}

-- ── a leaf's text ──

module _ (m : List ℕ) (s : ℕ) where
  pub text-none : is_leaf m s ≡ false → leaf_text m s ≡ []
  unfolding leaf_text
  text-none e = rw e

  pub text-is : is_leaf m s ≡ true → leaf_text m s ≡ text_of m s
  unfolding leaf_text
  text-is e = rw e

  pub no_text : is_leaf m s ≡ false → (◌≡◌ {A = List ℕ} [] (leaf_text m s)) × (0 ≤ 512)
  no_text e = (sym (text-none e), omega arith)

  pub text-there : (a n : ℕ) → is_leaf m s ≡ true → len_of m s ≡ n → n ≤ 512 → a ≡ slot_start s + 128 → slot_start s + 640 ≤ length m
      → (take (a + n - a) (drop a m) ≡ leaf_text m s) × (length (take (a + n - a) (drop a m)) ≤ 512)
  text-there a n e l h k i =
      let z : a + n - a ≡ n = omega arith in (
        text-lent m s a n k h ∙ ap (λ (j : ℕ). take j (region_of m s)) (sym l) ∙ sym (text-is e),
        omega (arith, ap (λ (j : ℕ). length (take j (drop a m))) z, length-take-le n (drop a m) (omega (arith, length-drop a m))),
      )

-- ── a search ──

pub spot_is : (m : List ℕ) (by : Measure) (at h s : ℕ) (k : Kid) (r : Answer (ℕ × TextSum)) → k ≡ root_of m → h ≡ height_of m → s ≡ k.slot → outcome r ≡ leaf_at m h s by at → outcome r ≡ spot_of m by at
spot_is m by at h s k r e f g p = p ∙ ap (λ (j : ℕ). leaf_at m j s by at) f ∙ ap (λ (j : ℕ). leaf_at m (height_of m) j by at) (g ∙ ap (λ (x : Kid). x.slot) e)

module _ (m : List ℕ) (at : ℕ) where
  module _ (r : Answer (ℕ × TextSum)) where
    pub chars-none : (q : Refusal) → outcome r ≡ spot_of m Chars at → r ≡ Err q → ◌≡◌ {A = List ℕ} [] (from_char m at)
    unfolding from_char
    chars-none q p e = ap (λ (o : Outcome (ℕ × TextSum)). part (mapped (chars_behind m at) o)) (sym (ap outcome e) ∙ p)

    pub bytes-none : (q : Refusal) → outcome r ≡ spot_of m Bytes at → r ≡ Err q → ◌≡◌ {A = List ℕ} [] (from_byte m at)
    unfolding from_byte
    bytes-none q p e = ap (λ (o : Outcome (ℕ × TextSum)). part (mapped (bytes_behind m at) o)) (sym (ap outcome e) ∙ p)

    pub byte-none : (q : Refusal) → outcome r ≡ spot_of m Chars at → r ≡ Err q → refused (refusal_number q) ≡ byte_of m at
    unfolding byte_of
    byte-none q p e = ap (mapped (start_of m at)) (sym (ap outcome e) ∙ p)

    module _ (leaf : ℕ) (left : TextSum) (t : List ℕ) (i : ℕ) where
      pub chars-found : outcome r ≡ spot_of m Chars at → r ≡ Ok (leaf, left) → t ≡ leaf_text m leaf → i ≡ at - left.chars
          → (k : ℕ) → k ≡ byte_in t i → (x : List ℕ) → x ≡ drop k t → x ≡ from_char m at
      unfolding from_char
      chars-found p e f g k l x w =
          w ∙ ap (λ (j : ℕ). drop j t) (l ∙ ap (byte_in t) g) ∙ ap (λ (y : List ℕ). drop (byte_in y (at - left.chars)) y) f
          ∙ ap (λ (o : Outcome (ℕ × TextSum)). part (mapped (chars_behind m at) o)) (sym (ap outcome e) ∙ p)

      pub bytes-found : outcome r ≡ spot_of m Bytes at → r ≡ Ok (leaf, left) → t ≡ leaf_text m leaf → i ≡ at - left.bytes
          → (x : List ℕ) → x ≡ drop i t → x ≡ from_byte m at
      unfolding from_byte
      bytes-found p e f g x w =
          w ∙ ap (λ (j : ℕ). drop j t) g ∙ ap (drop (at - left.bytes)) f
          ∙ ap (λ (o : Outcome (ℕ × TextSum)). part (mapped (bytes_behind m at) o)) (sym (ap outcome e) ∙ p)

      pub byte-found : outcome r ≡ spot_of m Chars at → r ≡ Ok (leaf, left) → t ≡ leaf_text m leaf → i ≡ at - left.chars
          → (k : ℕ) → k ≡ byte_in t i → value (left.bytes + k) ≡ byte_of m at
      unfolding byte_of
      byte-found p e f g k l =
          ap (λ (j : ℕ). value (left.bytes + j)) (l ∙ ap (byte_in t) g ∙ ap (λ (y : List ℕ). byte_in y (at - left.chars)) f)
          ∙ ap (mapped (start_of m at)) (sym (ap outcome e) ∙ p)

-- the counts on the left of a leaf, in a tree of at most 255 levels
pub left-small : (r : Answer (ℕ × TextSum)) (leaf : ℕ) (left : TextSum) → Bounded 255 r → r ≡ Ok (leaf, left) → left.bytes ≤ 4080 * 4294967295
left-small r leaf left b e = let w = subst (Bounded 255) e b in omega (arith, w.b)

pub bounded-most : (h : ℕ) (r : Answer (ℕ × TextSum)) → h < 256 → Bounded h r → Bounded 255 r
bounded-most h (Ok (leaf, left)) k w =
    let l = 16 * h in
    let most : l ≤ 16 * 255 = omega arith in
    record { b = up l left.bytes most w.b; c = up l left.chars most w.c; u = up l left.utf16_surrogates most w.u; l = up l left.line_breaks most w.l }
  where
    up : (l x : ℕ) → l ≤ 16 * 255 → x ≤ l * 4294967295 → x ≤ 16 * 255 * 4294967295
    up l x i j = omega arith
bounded-most h (Err q) k w = tt
