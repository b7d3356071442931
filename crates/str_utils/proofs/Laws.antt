-- From bytes to the text: what a helper answers of well-formed bytes, and of others; the last line, and the break that ends bytes.
use Rattle.answer.specs.Answers.{Answer, outcome}
use Rattle.std.specs.Prelude.{Ok, Err}
use mathlib.Core.Path.{◌≡◌, refl, sym, ap, ◌∙◌, subst}
use mathlib.Core.Bool.{Bool, true, false, not, ◌&&◌, cond}
use mathlib.Core.List.{List, [], ◌∷◌}
use Prim.Native.Nat.{ℕ, zero, suc, ◌+◌, ◌≤◌, ◌<◌}
use native.Mathlib.Omega.{arith}
use native.Mathlib.Numerals.{add-one}
use lib.Dec.{eqb}
use lib.ListN.{length, get_or, take, drop}
use lib.Seq.{length-take-le}
use borrow.Author.Tests.{eq-eqb, ne_eqb, not-false}
use Rattle.plain.specs.Chars.{encode}
use Rattle.plain.specs.Utf8.{valid_utf8, decode}
use Rattle.plain.specs.Outcome.{Outcome, Outcome.value, Outcome.refused, part}
use Rattle.plain.specs.Count.{bit, count_if, lf_first, ends, breaks, line_at, line_start, tail_break}
use Rattle.plain.specs.Place.{is_start, is_wide, is_pair, byte_at, floor_of, place_of, place_of_byte, place_of_unit, start_chars, start_units}
use Rattle.plain.proofs.Utf8.{valid-sound}
use Rattle.plain.proofs.Outcome.{one-applies, one-passed, one-accepted, Known, known}
use Rattle.plain.proofs.Encode.{encode-take}
use Rattle.plain.proofs.Count.{ends-lf, ends-cr, ends-no, lf-at, lf-end, line-drop, line-zero, line-behind, start-le, break-turn, break-end, tail-two}
use Rattle.plain.proofs.Text.{chars-encode, pairs-encode, line-encode, tail-no-lf}
use Rattle.plain.proofs.Place.{byte-of-char, byte-of-unit, floor-encode, place-of-byte, place-le, start-encode}
use Rattle.answer.specs.declared.Refusal.{Refusal}
use Rattle.answer.proofs.Opened.{opened, passed_on}
use Rattle.str_utils.specs.Helpers.{of_text}

-- ── a helper's answer ──

module _ {A : Type 0} (s : List ℕ) (f : List ℕ → A) where
  pub text-refused : valid_utf8 s ≡ false → refused 5 ≡ of_text s f
  unfolding of_text
  text-refused e = sym (one-applies 5 (not (valid_utf8 s)) (f (decode s)) (ap not e))

  -- where F of the bytes of a text is f of the text, F of well-formed bytes is the answer
  pub text-is : (F : List ℕ → A) → ((cs : List ℕ) → F (encode cs) ≡ f cs) → (a : A) → valid_utf8 s ≡ true → a ≡ F s → value a ≡ of_text s f
  unfolding of_text
  text-is F law a v e =
      ap value (e ∙ ap F (sym (valid-sound s v).1) ∙ law (decode s)) ∙ sym (one-passed 5 (not (valid_utf8 s)) (f (decode s)) (ap not v))

-- all helpers accept, or refuse, the same bytes
module _ {A B : Type 0} (s : List ℕ) (f : List ℕ → A) (g : List ℕ → B) where
  same-rule : Known ((5, not (valid_utf8 s)) ∷ []) (f (decode s)) (g (decode s)) (of_text s f)
  unfolding of_text
  same-rule = known ((5, not (valid_utf8 s)) ∷ []) (f (decode s)) (g (decode s))

  pub text-too : (a : A) → of_text s f ≡ value a → of_text s g ≡ value (g (decode s))
  unfolding of_text
  text-too a e = (subst (λ (o : Outcome A). Known ((5, not (valid_utf8 s)) ∷ []) (f (decode s)) (g (decode s)) o) e same-rule).1

  pub refused-too : (n : ℕ) → of_text s f ≡ refused n → of_text s g ≡ refused n
  unfolding of_text
  refused-too n e = subst (λ (o : Outcome A). Known ((5, not (valid_utf8 s)) ∷ []) (f (decode s)) (g (decode s)) o) e same-rule

-- where it hands out a part
pub part-refused : (s : List ℕ) (f : List ℕ → List ℕ) → valid_utf8 s ≡ false → [] ≡ part (of_text s f)
part-refused s f e = ap part (text-refused s f e)

pub part-is : (s : List ℕ) (f F : List ℕ → List ℕ) → ((cs : List ℕ) → F (encode cs) ≡ f cs) → (l : List ℕ) → valid_utf8 s ≡ true → l ≡ F s → l ≡ part (of_text s f)
part-is s f F law l v e = ap part (text-is s f F law l v e)

-- the answer of `checked`, opened
module _ (s : List ℕ) (f : List ℕ → ℕ) (r : Answer ℕ) (promise : outcome r ≡ of_text s f) where
  pub text-valid : (n : ℕ) → r ≡ Ok n → valid_utf8 s ≡ true
  unfolding of_text
  text-valid n e =
      not-false (valid_utf8 s) (one-accepted 5 (not (valid_utf8 s)) (f (decode s)) (f (decode s)) (opened r ((5, not (valid_utf8 s)) ∷ []) (f (decode s)) promise n (f (decode s)) e).1)

  pub text-passed : (g : List ℕ → ℕ) (q : Refusal) → r ≡ Err q → outcome r ≡ of_text s g
  unfolding of_text
  text-passed g q e = passed_on r ((5, not (valid_utf8 s)) ∷ []) (f (decode s)) promise q (g (decode s)) e

-- ── each count over bytes is the plain note's ──

pub char-of-byte : (i : ℕ) (cs : List ℕ) → count_if is_start (take (floor_of (encode cs) i) (encode cs)) ≡ place_of_byte cs i
char-of-byte i cs =
    let p = place_of_byte cs i in
    ap (λ (n : ℕ). count_if is_start (take n (encode cs))) (floor-encode cs i)
    ∙ ap (count_if is_start) (encode-take cs p) ∙ chars-encode (take p cs) ∙ length-take-le p cs (place-le _ cs i)

pub pairs-of-byte : (i : ℕ) (cs : List ℕ) → count_if is_wide (take (floor_of (encode cs) i) (encode cs)) ≡ count_if is_pair (take (place_of_byte cs i) cs)
pairs-of-byte i cs =
    let p = place_of_byte cs i in
    ap (λ (n : ℕ). count_if is_wide (take n (encode cs))) (floor-encode cs i) ∙ ap (count_if is_wide) (encode-take cs p) ∙ pairs-encode (take p cs)

-- a byte that is a place's
char-at : (p i : ℕ) (cs : List ℕ) → p ≤ length cs → i ≡ byte_at cs p → count_if is_start (take (floor_of (encode cs) i) (encode cs)) ≡ p
char-at p i cs h e = char-of-byte i cs ∙ ap (place_of_byte cs) e ∙ place-of-byte cs p h

pub line-of-char : (n : ℕ) (cs : List ℕ) → line_at (encode cs) (place_of start_chars (encode cs) n) ≡ line_at cs n
line-of-char n cs = ap (line_at (encode cs)) (byte-of-char cs n) ∙ line-encode cs n

pub char-of-line : (l : ℕ) (cs : List ℕ) → count_if is_start (take (floor_of (encode cs) (line_start (encode cs) l)) (encode cs)) ≡ line_start cs l
char-of-line l cs = char-at (line_start cs l) (line_start (encode cs) l) cs (start-le cs l) (start-encode cs l)

pub char-of-unit : (n : ℕ) (cs : List ℕ) → count_if is_start (take (floor_of (encode cs) (place_of start_units (encode cs) n)) (encode cs)) ≡ place_of_unit cs n
char-of-unit n cs = char-at (place_of_unit cs n) (place_of start_units (encode cs) n) cs (place-le _ cs n) (byte-of-unit cs n)

-- ── the last line of any bytes ──

-- behind i there is no break, and no LF
abbrev pub NoBreak : List ℕ → ℕ → Type 0
NoBreak s i = (breaks (drop i s) ≡ 0) × (lf_first (drop i s) ≡ false)

pub no-break-end : (s : List ℕ) → NoBreak s (length s)
no-break-end s = (break-end s (length s) (omega arith), lf-end s (length s) (omega arith))

module _ (s : List ℕ) (n i : ℕ) (h : i < length s) (e : n ≡ suc i) (none : NoBreak s n) where
  behind : drop (i + 1) s ≡ drop n s
  behind = ap (λ (k : ℕ). drop k s) (add-one i ∙ sym e)

  pub no-break-down : (get_or s i 0 ≡ 0x0A → ⊥) → (get_or s i 0 ≡ 0x0D → ⊥) → NoBreak s i
  no-break-down a b = (
    omega (arith, break-turn s i h, ap bit (ends-no (get_or s i 0) (drop (i + 1) s) a b), ap breaks behind, none.0),
    lf-at s i h ∙ ne_eqb (get_or s i 0) 0x0A a,
  )

  last-at : ends (get_or s i 0) (drop n s) ≡ true → n ≡ line_start s (breaks s)
  last-at t =
      let r = line-behind s i h (ap (λ (k : ℕ). ends (get_or s i 0) (drop k s)) (sym e) ∙ t) in
      let l : line_at s (suc i) ≡ breaks s = omega (arith, line-drop s (suc i), ap (λ (k : ℕ). breaks (drop k s)) e, none.0) in
      e ∙ sym r.1 ∙ ap (line_start s) l

  pub last-lf : get_or s i 0 ≡ 0x0A → n ≡ line_start s (breaks s)
  last-lf x = last-at (ends-lf (get_or s i 0) (drop n s) x)

  pub last-cr : get_or s i 0 ≡ 0x0D → n ≡ line_start s (breaks s)
  last-cr x = last-at (ends-cr (get_or s i 0) (drop n s) x ∙ ap not none.1)

pub last_none : (s : List ℕ) (n : ℕ) → n ≡ 0 → NoBreak s n → 0 ≡ line_start s (breaks s)
last_none s n e none =
    let z : breaks s ≡ 0 = ap (λ (k : ℕ). breaks (drop k s)) (sym e) ∙ none.0 in
    sym (ap (line_start s) z ∙ line-zero s)

-- ── the break that ends any bytes, by the last two ──

pub tail-empty : (s : List ℕ) → length s ≡ 0 → 0 ≡ tail_break s
unfolding tail_break
tail-empty [] e = refl
tail-empty (x ∷ s) e = absurd (omega arith)

module _ (s : List ℕ) (n : ℕ) (e : length s ≡ suc n) where
  -- no CR LF: the last byte alone
  tail-last : (get_or s n 0 ≡ 0x0A → ⊥) → tail_break s ≡ bit (ends (get_or s n 0) [])
  tail-last h = go s n e h
    where
      go : (s : List ℕ) (n : ℕ) → length s ≡ suc n → (get_or s n 0 ≡ 0x0A → ⊥) → tail_break s ≡ bit (ends (get_or s n 0) [])
      go [] n e h = absurd (omega arith)
      go (x ∷ []) zero e h = unfold tail_break in refl
      go (x ∷ []) (suc n) e h = absurd (omega arith)
      go (x ∷ y ∷ s) zero e h = absurd (omega arith)
      go (x ∷ y ∷ s) (suc n) e h = tail-two (x ∷ y ∷ s) n e ∙ tail-no-lf (get_or (x ∷ y ∷ s) n 0) (get_or (x ∷ y ∷ s) (suc n) 0) h

  pub tail-cr : get_or s n 0 ≡ 0x0D → 1 ≡ tail_break s
  unfolding lf_first
  tail-cr x = sym (tail-last (λ y. omega arith) ∙ ap bit (ends-cr (get_or s n 0) [] x))

  pub tail-other : (get_or s n 0 ≡ 0x0D → ⊥) → (get_or s n 0 ≡ 0x0A → ⊥) → 0 ≡ tail_break s
  tail-other x y = sym (tail-last y ∙ ap bit (ends-no (get_or s n 0) [] y x))

  pub tail-lf-alone : get_or s n 0 ≡ 0x0A → n ≡ 0 → 1 ≡ tail_break s
  tail-lf-alone x z = go s n e x z
    where
      go : (s : List ℕ) (n : ℕ) → length s ≡ suc n → get_or s n 0 ≡ 0x0A → n ≡ 0 → 1 ≡ tail_break s
      go [] n e x z = absurd (omega arith)
      go (y ∷ []) zero e x z = unfold tail_break in sym (ap bit (ends-lf y [] x))
      go (y ∷ []) (suc n) e x z = absurd (omega arith)
      go (y ∷ w ∷ s) zero e x z = absurd (omega arith)
      go (y ∷ w ∷ s) (suc n) e x z = absurd (omega arith)

module _ (s : List ℕ) (m n : ℕ) (e : length s ≡ suc m) (f : m ≡ suc n) (x : get_or s m 0 ≡ 0x0A) where
  tail-lf : tail_break s ≡ cond (eqb (get_or s n 0) 0x0D) 2 1
  unfolding tail_break
  tail-lf =
      tail-two s n (e ∙ ap suc f) ∙ rw (eq-eqb (get_or s (suc n) 0) 0x0A (ap (λ (k : ℕ). get_or s k 0) (sym f) ∙ x)) (go (eqb (get_or s n 0) 0x0D))
    where
      go : (t : Bool) → cond {A = ℕ} (t && true) 2 1 ≡ cond t 2 1
      go true = refl
      go false = refl

  pub tail-cr-lf : get_or s n 0 ≡ 0x0D → 2 ≡ tail_break s
  tail-cr-lf y = sym (tail-lf ∙ rw (eq-eqb (get_or s n 0) 0x0D y))

  pub tail-only-lf : (get_or s n 0 ≡ 0x0D → ⊥) → 1 ≡ tail_break s
  tail-only-lf y = sym (tail-lf ∙ rw (ne_eqb (get_or s n 0) 0x0D y))
