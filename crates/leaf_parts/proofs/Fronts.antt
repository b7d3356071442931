-- In a sound tree the parts are what they should be of its whole text: a search that found a leaf parted the text there.
use mathlib.Core.Path.{◌≡◌, refl, sym, ap, subst, ◌∙◌}
use mathlib.Core.Bool.{true}
use mathlib.Core.List.{List, [], ◌∷◌, ◌++◌}
use Prim.Native.Nat.{ℕ, ◌+◌, ◌-◌, ◌≤◌, ◌<◌, min}
use native.Mathlib.Omega.{arith}
use lib.ListN.{length, take, drop, length-append, length-take, length-drop}
use lib.Seq.{length-take-le, take_all, take-take, take-append-le, drop-append-le, take-append-add, drop-append-add, drop-drop}
use borrow.Author.Tests.{ltb-true, ltb-false}
use Rattle.plain.specs.Chars.{encode}
use Rattle.plain.proofs.Logic.{cut}
use Rattle.plain.specs.Utf8.{decode}
use Rattle.plain.specs.Place.{is_start, bytes, byte_at}
use Rattle.plain.specs.Outcome.{Outcome, Outcome.value, part, mapped}
use Rattle.plain.proofs.Encode.{encode-append, encode-split, encode-drop}
use Rattle.plain.proofs.Utf8.{valid-sound, valid-append}
use Rattle.plain.proofs.Place.{byte-of-char}
use Rattle.plain.proofs.Text.{chars-encode}
use Rattle.text_info.proofs.Counts.{count-le}
use Rattle.text_info.specs.declared.TextSum.{TextSum}
use Rattle.child_search.specs.declared.Measure.{Measure}
use Rattle.child_search.specs.declared.Measure.TheVariants.{Bytes, Chars}
use Rattle.nodes.specs.Node.{text_of}
use Rattle.tree.specs.Tree.{bytes_below, sound, least_root}
use Rattle.tree.proofs.Sound.{valid-below}
use Rattle.tree_search.specs.Search.{PartedAt}
use Rattle.tree_search.proofs.Parted.{ends, chars-parted}
use Rattle.note_head.specs.Head.{root_of, height_of}
use Rattle.leaf_parts.specs.Parts.{leaf_text, byte_in, chars_behind, bytes_behind, start_of, from_char, from_byte, byte_of}
use Rattle.leaf_parts.specs.Front.{FrontChars, FrontBytes}
use Rattle.leaf_parts.proofs.Found.{text-is}

-- ── lists cut twice, and lists in three parts, cut in the middle one ──

pub take_min : (k n : ℕ) (l : List ℕ) → take k (take n l) ≡ take (min k n) l
take_min k n l =
    cut k n (λ h. let z : min k n ≡ k = omega arith in take-take k n l (omega arith) ∙ ap (λ (j : ℕ). take j l) (sym z))
    (λ h. let z : min k n ≡ n = omega arith in take_all k (take n l) (omega (arith, length-take n l)) ∙ ap (λ (j : ℕ). take j l) (sym z))

module _ {A : Type 0} (b d a : List A) (i : ℕ) (low : length b ≤ i) (high : i ≤ length b + length d) where
  pub drop-inner : drop i (b ++ (d ++ a)) ≡ drop (i - length b) d ++ a
  drop-inner =
      let z : i ≡ length b + (i - length b) = omega arith in
      ap (λ (k : ℕ). drop k (b ++ (d ++ a))) z ∙ drop-append-add b (d ++ a) (i - length b) ∙ drop-append-le (i - length b) d a (omega arith)

  pub take_inner : take i (b ++ (d ++ a)) ≡ b ++ take (i - length b) d
  take_inner =
      let z : i ≡ length b + (i - length b) = omega arith in
      ap (λ (k : ℕ). take k (b ++ (d ++ a))) z ∙ take-append-add b (d ++ a) (i - length b) ∙ ap (λ (l : List A). b ++ l) (take-append-le (i - length b) d a (omega arith))

  -- what is left of the middle part is a front part of what is left of the whole
  pub rest-inner : drop (i - length b) d ≡ take (length b + length d - i) (drop i (b ++ (d ++ a)))
  rest-inner =
      let size : length (drop (i - length b) d) ≡ length b + length d - i = omega (arith, length-drop (i - length b) d) in
      sym (ap (take (length b + length d - i)) drop-inner
      ∙ take-append-le (length b + length d - i) (drop (i - length b) d) a (omega arith)
      ∙ take_all (length b + length d - i) (drop (i - length b) d) (omega arith))

pub length_three : {A : Type 0} (b d a : List A) → length (b ++ (d ++ a)) ≡ length b + (length d + length a)
length_three b d a = omega (arith, length-append b (d ++ a), length-append d a)

-- ── a parted text ──

module _ (m : List ℕ) (h s : ℕ) (by : Measure) (at leaf : ℕ) (left : TextSum) (before after : List ℕ) (p : PartedAt m h s by at leaf left before after) where
  pub chars-left : left.chars ≡ length (decode before)
  chars-left = ap (λ (x : TextSum). x.chars) p.counts

  pub bytes_left : left.bytes ≡ length before
  bytes_left = ap (λ (x : TextSum). x.bytes) p.counts ∙ ap length (valid-sound before p.valid-before).1

  -- the text is empty where its bytes are
  none : decode [] ≡ []
  none = unfold decode in refl

  chars-two : length (decode (before ++ text_of m leaf)) ≡ length (decode before) + length (decode (text_of m leaf))
  chars-two = ap length (valid-append before (text_of m leaf) p.valid-before p.valid-leaf).1 ∙ length-append (decode before) (decode (text_of m leaf))

  bytes-two : bytes (decode (before ++ text_of m leaf)) ≡ length before + length (text_of m leaf)
  bytes-two =
      ap length (valid-sound (before ++ text_of m leaf) (valid-append before (text_of m leaf) p.valid-before p.valid-leaf).0).1
      ∙ length-append before (text_of m leaf)

filled : (x : ℕ) (xs : List ℕ) → x ∷ xs ≡ [] → ⊥
filled x xs e = omega (arith, ap length e)

module _ (m : List ℕ) (h s at leaf : ℕ) (left : TextSum) where
  -- ── by chars ──

  module _ (before after : List ℕ) (p : PartedAt m h s Chars at leaf left before after) (in-range : at ≤ length (decode (bytes_below m h s))) where
    abbrev cs : List ℕ
    cs = decode (bytes_below m h s)

    abbrev b : List ℕ
    b = decode before

    abbrev d : List ℕ
    d = decode (text_of m leaf)

    size : length cs ≡ length b + (length d + length (decode after))
    size = ap length (chars-parted m Chars h s at leaf left before after p) ∙ length_three b d (decode after)

    low-chars : length b ≤ at
    low-chars = go before refl
      where
        go : (x : List ℕ) → before ≡ x → length b ≤ at
        go [] e = omega (arith, ap (λ (l : List ℕ). length (decode l)) e, ap length (none m h s Chars at leaf left before after p))
        go (x ∷ xs) e = omega (arith, chars-left m h s Chars at leaf left before after p, ltb-false at left.chars (p.passed (λ f. filled x xs (sym e ∙ f))))

    high-chars : (at ≤ length b + length d) × (at < length cs → at < length b + length d)
    high-chars = go after refl
      where
        go : (x : List ℕ) → after ≡ x → (at ≤ length b + length d) × (at < length cs → at < length b + length d)
        go [] e =
            let z : length cs ≡ length b + length d = omega (arith, size, ap (λ (l : List ℕ). length (decode l)) e, ap length (none m h s Chars at leaf left before after p)) in
            (omega arith, λ k. omega arith)
        go (x ∷ xs) e =
            let z = ltb-true at (length (decode (before ++ text_of m leaf))) (p.stopped (λ f. filled x xs (sym e ∙ f))) in
            let w : at < length b + length d = omega (arith, z, chars-two m h s Chars at leaf left before after p) in
            (omega arith, λ k. w)

    -- what is left of the leaf, and the byte in it
    chars-behind : chars_behind m at (leaf, left) ≡ encode (drop (at - length b) d)
    chars-behind =
        let e = text-is m leaf p.is_leaf ∙ sym (valid-sound (text_of m leaf) p.valid-leaf).1 in
        ap (λ (t : List ℕ). drop (byte_in t (at - left.chars)) t) e
        ∙ ap (λ (k : ℕ). drop (byte_in (encode d) (at - k)) (encode d)) (chars-left m h s Chars at leaf left before after p)
        ∙ ap (λ (k : ℕ). drop k (encode d)) (byte-of-char d (at - length b))
        ∙ encode-drop d (at - length b)

    pub chars-front : FrontChars (decode (bytes_below m h s)) at (chars_behind m at (leaf, left))
    chars-front =
        let hi = high-chars in
        record {
          count = length b + length d - at;
          is = chars-behind ∙ ap encode (rest-inner b d (decode after) at low-chars hi.0 ∙ ap (λ (l : List ℕ). take (length b + length d - at) (drop at l)) (sym (chars-parted m Chars h s at leaf left before after p)));
          some = λ k. omega (arith, hi.1 k);
          room = omega (arith, hi.0, size, low-chars);
        }

    pub start_is : start_of m at (leaf, left) ≡ byte_at (decode (bytes_below m h s)) at
    start_is =
        let e = text-is m leaf p.is_leaf ∙ sym (valid-sound (text_of m leaf) p.valid-leaf).1 in
        let inner : byte_in (leaf_text m leaf) (at - left.chars) ≡ byte_at d (at - length b) =
        ap (λ (t : List ℕ). byte_in t (at - left.chars)) e ∙ ap (λ (k : ℕ). byte_in (encode d) (at - k)) (chars-left m h s Chars at leaf left before after p) ∙ byte-of-char d (at - length b) in
        let whole : byte_at cs at ≡ bytes b + byte_at d (at - length b) =
        ap (λ (l : List ℕ). bytes (take at l)) (chars-parted m Chars h s at leaf left before after p)
        ∙ ap bytes (take_inner b d (decode after) at low-chars high-chars.0)
        ∙ ap length (encode-append b (take (at - length b) d)) ∙ length-append (encode b) (encode (take (at - length b) d)) in
        omega (arith, inner, whole, ap (λ (x : TextSum). x.bytes) p.counts)

  -- ── by bytes ──

  module _ (before after : List ℕ) (p : PartedAt m h s Bytes at leaf left before after) (in-range : at ≤ length (bytes_below m h s)) where
    abbrev t : List ℕ
    t = text_of m leaf

    wide : length (bytes_below m h s) ≡ length before + (length t + length after)
    wide = ap length p.whole ∙ length_three before t after

    low-bytes : length before ≤ at
    low-bytes = go before refl
      where
        go : (x : List ℕ) → before ≡ x → length before ≤ at
        go [] e = omega (arith, ap length e)
        go (x ∷ xs) e = omega (arith, bytes_left m h s Bytes at leaf left before after p, ltb-false at left.bytes (p.passed (λ f. filled x xs (sym e ∙ f))))

    high-bytes : (at ≤ length before + length t) × (at < length (bytes_below m h s) → at < length before + length t)
    high-bytes = go after refl
      where
        go : (x : List ℕ) → after ≡ x → (at ≤ length before + length t) × (at < length (bytes_below m h s) → at < length before + length t)
        go [] e =
            let z : length (bytes_below m h s) ≡ length before + length t = omega (arith, wide, ap length e) in
            (omega arith, λ k. omega arith)
        go (x ∷ xs) e =
            let z = ltb-true at (bytes (decode (before ++ text_of m leaf))) (p.stopped (λ f. filled x xs (sym e ∙ f))) in
            let w : at < length before + length t = omega (arith, z, bytes-two m h s Bytes at leaf left before after p) in
            (omega arith, λ k. w)

    pub bytes-front : FrontBytes (bytes_below m h s) at (bytes_behind m at (leaf, left))
    bytes-front =
        let hi = high-bytes in
        let e : bytes_behind m at (leaf, left) ≡ drop (at - length before) t =
        ap (λ (k : ℕ). drop (at - k) (leaf_text m leaf)) (bytes_left m h s Bytes at leaf left before after p) ∙ ap (drop (at - length before)) (text-is m leaf p.is_leaf) in
        let size : length (bytes_behind m at (leaf, left)) ≡ length before + length t - at = omega (arith, ap length e, length-drop (at - length before) t, low-bytes, hi.0) in
        record {
          is = e ∙ rest-inner before t after at low-bytes hi.0 ∙ ap (λ (l : List ℕ). take (length before + length t - at) (drop at l)) (sym p.whole) ∙ ap (λ (k : ℕ). take k (drop at (bytes_below m h s))) (sym size);
          some = λ k. omega (arith, hi.1 k);
          room = omega (arith, hi.0, wide, low-bytes);
        }

-- ── a front part is empty exactly at the end ──

pub chars-bytes : (cs : List ℕ) → length cs ≤ bytes cs
chars-bytes cs = omega (arith, chars-encode cs, count-le is_start (encode cs))

module _ (cs : List ℕ) (at : ℕ) (t : List ℕ) (f : FrontChars cs at t) where
  pub front-filled : at < length cs → 1 ≤ length t
  front-filled h =
      let n = length-take-le f.count (drop at cs) (omega (arith, length-drop at cs, f.room)) in
      omega (arith, f.some h, n, ap length f.is, chars-bytes (take f.count (drop at cs)))

  pub front-empty : length cs ≤ at → t ≡ []
  unfolding encode
  front-empty h = let z : f.count ≡ 0 = omega (arith, f.room) in f.is ∙ ap (λ (k : ℕ). encode (take k (drop at cs))) z

  -- what follows it is the text from a place further on
  pub front_rest : encode (drop at cs) ≡ t ++ encode (drop (at + f.count) cs)
  front_rest =
      encode-split (drop at cs) f.count
      ∙ ap (λ (l : List ℕ). l ++ encode (drop f.count (drop at cs))) (sym f.is)
      ∙ ap (λ (l : List ℕ). t ++ encode l) (drop-drop f.count at cs)

-- ── THEOREMS: in a sound tree ──

abbrev pub whole_of : List ℕ → List ℕ
whole_of m = bytes_below m (height_of m) (root_of m).slot

module _ (m : List ℕ) (ok : sound m (least_root (height_of m)) (height_of m) (root_of m).slot ≡ true) where
  pub sound-bytes : encode (decode (whole_of m)) ≡ whole_of m
  sound-bytes = (valid-sound (whole_of m) (valid-below m (least_root (height_of m)) (height_of m) (root_of m).slot ok)).1

  pub from-char-front : (at : ℕ) → at ≤ length (decode (whole_of m)) → FrontChars (decode (whole_of m)) at (from_char m at)
  unfolding from_char
  from-char-front at k =
      let q = ends m Chars (height_of m) (root_of m).slot at (least_root (height_of m)) (omega arith) ok k in
      subst (λ (o : Outcome (ℕ × TextSum)). FrontChars (decode (whole_of m)) at (part (mapped (chars_behind m at) o))) (sym q.is)
      (chars-front m (height_of m) (root_of m).slot at q.leaf q.left q.before q.after q.parted k)

  pub from-byte-front : (at : ℕ) → at ≤ length (whole_of m) → FrontBytes (whole_of m) at (from_byte m at)
  unfolding from_byte
  from-byte-front at k =
      let q = ends m Bytes (height_of m) (root_of m).slot at (least_root (height_of m)) (omega arith) ok (omega (arith, ap length sound-bytes)) in
      subst (λ (o : Outcome (ℕ × TextSum)). FrontBytes (whole_of m) at (part (mapped (bytes_behind m at) o))) (sym q.is)
      (bytes-front m (height_of m) (root_of m).slot at q.leaf q.left q.before q.after q.parted k)

  pub byte-of-is : (at : ℕ) → at ≤ length (decode (whole_of m)) → byte_of m at ≡ value (byte_at (decode (whole_of m)) at)
  unfolding byte_of
  byte-of-is at k =
      let q = ends m Chars (height_of m) (root_of m).slot at (least_root (height_of m)) (omega arith) ok k in
      ap (mapped (start_of m at)) q.is ∙ ap (λ (j : ℕ). value j) (start_is m (height_of m) (root_of m).slot at q.leaf q.left q.before q.after q.parted k)
