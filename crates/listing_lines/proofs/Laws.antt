-- What is put behind an output's first bytes; that the digits of `io::decimal` are those of `decimal`; the lines by their pieces; and what room makes of it.
use mathlib.Core.Path.{◌≡◌, refl, sym, ap, ◌∙◌}
use mathlib.Core.Bool.{Bool, true, false, cond}
use mathlib.Core.List.{List, [], ◌++◌, append_assoc, append-nil}
use Prim.Native.Nat.{ℕ, zero, suc, ◌+◌, ◌-◌, ◌*◌, ◌/◌, ◌%◌, ◌^◌, ◌≤◌, ◌<◌}
use native.Mathlib.Omega.{arith}
use native.Mathlib.Nat.{not-suc-le-zero, le_of_suc-le-suc, pow-succ', one-le-pow, pow-le-pow_right}
use borrow.Rule.Slice.PartMut.{post_of, put_mid, drop_put}
use borrow.Author.Tests.{lt-ltb, le-ltb, le-leb, lt-leb, leb-true, leb-false}
use lib.Dec.{eqb, leb}
use lib.ListN.{length, take, drop, length-append, length-drop}
use lib.Seq.{length-take-le, take_all, take_at, take-length, drop_at, drop-length, drop-drop}
use Rattle.io.specs.Digits.{last_digits, IsDigitCount}
use Rattle.listing_lines.specs.Puts.{Laid, Puts}
use Rattle.plain_journal.specs.Listing.{decimal_by, decimal, line_end, ok_text, refused_text, bytes_text, chars_text, units_text, lines_text, mark_text, place_text, line_text, field_line, totals_line, mark_line}

-- ── pieces ──

-- piece p, copied over what stood behind the first `at` bytes of o
pub put_is : (o p : List ℕ) (at : ℕ) → at + length p ≤ length o → take (at + length p) (put_mid at (at + length p - at) o p) ≡ take at o ++ p
put_is o p at h = rw (← append_assoc (take at o) p (post_of at (at + length p - at) o)) (take_at (take at o ++ p) _ (at + length p) (length-append (take at o) p ∙ omega (arith, length-take-le at o (omega arith))))

-- what lies behind it is as it was
pub rest-is : (o p : List ℕ) (at : ℕ) → at + length p ≤ length o → drop (at + length p) (put_mid at (at + length p - at) o p) ≡ drop (at + length p) o
rest-is o p at h = drop_put at (at + length p) o p (omega arith) h (omega arith)

-- two pieces laid one behind the other
pub then-laid : (o o₁ o₂ p q : List ℕ) (at a b : ℕ) → Laid at p o a o₁ → Laid a q o₁ b o₂ → Laid at (p ++ q) o b o₂
then-laid o o₁ o₂ p q at a b v w = (
  omega (arith, v.0, w.0, length-append p q),
  w.1 ∙ ap (λ (l : List ℕ). l ++ q) v.1 ∙ append_assoc (take at o) p q,
  w.2 ∙ further o₁ ∙ ap (drop (length q)) v.2 ∙ sym (further o),
)
  where
    further : (l : List ℕ) → drop b l ≡ drop (length q) (drop a l)
    further l = ap (λ (k : ℕ). drop k l) w.0 ∙ sym (drop-drop (length q) a l)

-- ── digits ──

-- the fewest digits that hold n: each is below 10, so that its `glyph` is 48 and the digit
digits_are : (r f n : ℕ) → r ≤ f → IsDigitCount 10 1 n r → last_digits 10 r n ≡ decimal_by f n
unfolding decimal_by
digits_are zero f n h w = absurd (not-suc-le-zero w.0)
digits_are (suc r) zero n h w = absurd (not-suc-le-zero h)
digits_are (suc zero) (suc f) n h w =
    let same : n % 10 ≡ n = omega (arith, w.1) in
    rw (same, lt-ltb n 10 w.1)
digits_are (suc (suc r)) (suc f) n h w =
    let pos : 0 < 10 ^ r = one-le-pow r 10 (omega arith) in
    let e1 : 10 ^ suc r ≡ 10 * 10 ^ r = pow-succ' 10 r in
    let e2 : 10 ^ suc (suc r) ≡ 10 * 10 ^ suc r = pow-succ' 10 (suc r) in
    let one : suc (suc r) - 1 ≡ suc r = omega arith in
    let two : suc r - 1 ≡ r = omega arith in
    let low : 10 ^ suc r ≤ n = rw one at (w.2 (omega arith)) in
    let less : n / 10 < 10 ^ suc r = omega (arith, w.1) in
    rw (lt-ltb (n % 10) 10 (omega arith), le-ltb n 10 (omega arith), digits_are (suc r) f (n / 10) (le_of_suc-le-suc h) (omega arith, less, λ _. rw two (omega arith)))

-- a number below 2 ^ 64 has at most 20 digits
pub places-le : (r n : ℕ) → n < 2 ^ 64 → IsDigitCount 10 1 n r → r ≤ 20
places-le r n h w =
    let no : 20 < r → ⊥ = λ l. (
    let k : 20 ≤ r - 1 = omega arith in
    let m : 10 ^ 20 ≤ 10 ^ (r - 1) = pow-le-pow_right (omega arith) k in
    omega (arith, w.2 (omega arith))) in
    omega (arith, no)

-- what `io::decimal` writes of such a number
pub decimal-is : (r n : ℕ) → n < 2 ^ 64 → IsDigitCount 10 1 n r → last_digits 10 r n ≡ decimal n
unfolding decimal
decimal-is r n h w = digits_are r 20 n (places-le r n h w) w

-- ── lines by their pieces ──

pub field_is : (k c : ℕ) → field_line k c ≡ decimal k ++ (cond (eqb c 0) ok_text (refused_text ++ decimal c) ++ line_end)
unfolding field_line
field_is k c = refl

pub totals-is : (b c u l : ℕ) → totals_line b c u l ≡ (bytes_text ++ decimal b) ++ ((chars_text ++ decimal c) ++ ((units_text ++ decimal u) ++ ((lines_text ++ decimal l) ++ line_end)))
unfolding totals_line
totals-is b c u l = refl

pub mark-is : (k p l : ℕ) → mark_line k p l ≡ (mark_text ++ decimal k) ++ ((place_text ++ decimal p) ++ ((line_text ++ decimal l) ++ line_end))
unfolding mark_line
mark-is k p l = refl

-- ── room ──

-- two comparisons that say the same
pub leb-leb : (a b c d : ℕ) → (a ≤ b → c ≤ d) → (c ≤ d → a ≤ b) → leb a b ≡ leb c d
leb-leb a b c d f g = go (leb a b) refl
  where
    go : (t : Bool) → leb a b ≡ t → leb a b ≡ leb c d
    go true e = e ∙ sym (le-leb c d (f (leb-true a b e)))
    go false e =
        let less : b < a = leb-false a b e in
        let no : c ≤ d → ⊥ = λ h. (let z : a ≤ b = g h in omega arith) in
        e ∙ sym (lt-leb c d (omega (arith, no)))

module _ (room at : ℕ) (line o : List ℕ) where
  pub no_room : leb (at + room) (length o) ≡ false → Puts room at line o at o
  no_room e = (λ h. absurd (omega (arith, leb-false (at + room) (length o) e)), λ h. (refl, refl))

  pub with-room : (r : ℕ) (o' : List ℕ) → leb (at + room) (length o) ≡ true → (r ≤ at + room) × Laid at line o r o' → Puts room at line o r o'
  with-room r o' e w = (λ h. w, λ h. absurd (omega (arith, leb-true (at + room) (length o) e)))
