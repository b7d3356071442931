-- The laws of the field at the front: it takes three bytes at least, bytes behind it change nothing of it, and its own bytes alone are the same field.
use mathlib.Core.Path.{◌≡◌, refl, sym, ap, ◌∙◌}
use mathlib.Core.Bool.{true, false}
use mathlib.Core.List.{List, ◌++◌}
use Prim.Native.Nat.{ℕ, ◌+◌, ◌-◌, ◌*◌, ◌≤◌, ◌<◌}
use native.Mathlib.Omega.{arith}
use lib.ListN.{length, get_or, take, drop, length-append, length-drop, get_or-append}
use lib.Seq.{length-take-le, get_or-take, take_all, take-add, take-append-le, drop-append-le}
use borrow.Author.Tests.{le-leb, lt-leb, leb-true, leb-false}
use Rattle.octets.specs.Big.{two_at}
use Rattle.framing.specs.Field.{field_bytes, is_whole, tag_of, body_of, behind}

pub bytes-are : (s : List ℕ) → field_bytes s ≡ 3 + two_at s 1
unfolding field_bytes
bytes-are s = refl

pub three-bytes : (s : List ℕ) → 3 ≤ field_bytes s
unfolding field_bytes
three-bytes s = omega arith

pub whole_le : (s : List ℕ) → is_whole s ≡ true → field_bytes s ≤ length s
unfolding is_whole
whole_le s h = leb-true (field_bytes s) (length s) h

pub whole_is : (s : List ℕ) → field_bytes s ≤ length s → is_whole s ≡ true
unfolding is_whole
whole_is s h = le-leb (field_bytes s) (length s) h

pub short-is : (s : List ℕ) → length s < field_bytes s → is_whole s ≡ false
unfolding is_whole
short-is s h = lt-leb (field_bytes s) (length s) h

pub short-lt : (s : List ℕ) → is_whole s ≡ false → length s < field_bytes s
unfolding is_whole
short-lt s h = omega (arith, leb-false (field_bytes s) (length s) h)

pub body_is : (s : List ℕ) → body_of s ≡ take (field_bytes s - 3) (drop 3 s)
unfolding body_of field_bytes
body_is s = let z : two_at s 1 ≡ 3 + two_at s 1 - 3 = omega arith in ap (λ (n : ℕ). take n (drop 3 s)) z

-- ── more bytes behind a whole field ──

module _ (s more : List ℕ) (w : is_whole s ≡ true) where
  pub more-two : two_at (s ++ more) 1 ≡ two_at s 1
  unfolding two_at
  more-two =
      ap (λ (x : ℕ). x * 256 + get_or (s ++ more) 2 0) (get_or-append s more 0 1 (omega (arith, whole_le s w, three-bytes s)))
      ∙ ap (λ (x : ℕ). get_or s 1 0 * 256 + x) (get_or-append s more 0 2 (omega (arith, whole_le s w, three-bytes s)))

  pub more_bytes : field_bytes (s ++ more) ≡ field_bytes s
  more_bytes = bytes-are (s ++ more) ∙ ap (λ (x : ℕ). 3 + x) more-two ∙ sym (bytes-are s)

  pub more-whole : is_whole (s ++ more) ≡ true
  more-whole = whole_is (s ++ more) (omega (arith, more_bytes, whole_le s w, length-append s more))

  pub more-tag : tag_of (s ++ more) ≡ tag_of s
  more-tag = get_or-append s more 0 0 (omega (arith, whole_le s w, three-bytes s))

  pub more-body : body_of (s ++ more) ≡ body_of s
  more-body =
      body_is (s ++ more)
      ∙ ap (λ (n : ℕ). take (n - 3) (drop 3 (s ++ more))) more_bytes
      ∙ ap (take (field_bytes s - 3)) (drop-append-le 3 s more (omega (arith, whole_le s w, three-bytes s)))
      ∙ take-append-le (field_bytes s - 3) (drop 3 s) more (omega (arith, length-drop 3 s, whole_le s w))
      ∙ sym (body_is s)

  pub more-behind : behind (s ++ more) ≡ behind s ++ more
  more-behind = ap (λ (n : ℕ). drop n (s ++ more)) more_bytes ∙ drop-append-le (field_bytes s) s more (whole_le s w)

-- ── the field at the front alone ──

module _ (s : List ℕ) (w : is_whole s ≡ true) where
  abbrev pub front : List ℕ
  front = take (field_bytes s) s

  pub front_long : length front ≡ field_bytes s
  front_long = length-take-le (field_bytes s) s (whole_le s w)

  pub front-two : two_at front 1 ≡ two_at s 1
  unfolding two_at
  front-two =
      ap (λ (x : ℕ). x * 256 + get_or front 2 0) (get_or-take (field_bytes s) s 1 0 (omega (arith, three-bytes s)))
      ∙ ap (λ (x : ℕ). get_or s 1 0 * 256 + x) (get_or-take (field_bytes s) s 2 0 (omega (arith, three-bytes s)))

  pub front_bytes : field_bytes front ≡ field_bytes s
  front_bytes = bytes-are front ∙ ap (λ (x : ℕ). 3 + x) front-two ∙ sym (bytes-are s)

  pub front-whole : is_whole front ≡ true
  front-whole = whole_is front (omega (arith, front_bytes, front_long))

  pub front-all : front ++ behind s ≡ s
  front-all = sym (take-add (field_bytes s) (length s) s ∙ ap (λ (l : List ℕ). front ++ l) (take_all (length s) (behind s) (omega (arith, length-drop (field_bytes s) s)))) ∙ take_all (field_bytes s + length s) s (omega arith)
