-- The laws of child entries: the sixteen of a region, read and written one by one.
use mathlib.Core.Path.{◌≡◌, refl, sym, ap, ◌∙◌}
use mathlib.Core.List.{List, ◌∷◌, ◌++◌}
use Prim.Native.Nat.{ℕ, zero, suc, ◌+◌, ◌*◌, ◌≤◌, ◌<◌}
use native.Mathlib.Omega.{arith}
use lib.ListN.{length, take, drop, get_or, set, length-drop}
use Rattle.octets.specs.Over.{overlaid}
use Rattle.pool.specs.declared.Kid.{Kid}
use Rattle.octets.specs.Big.{two_at, four_at, bytes_of2, bytes_of4}
use Rattle.pool.specs.Slot.{kid_at, kid_bytes, kids_from, entries, no_kid, Fits}
use Rattle.octets.proofs.Over.{over-drop, over-join}
use Rattle.octets.proofs.Numbers.{four-drop, four-part, four-before, four-whole}

pub kid-length : (k : Kid) → length (kid_bytes k) ≡ 20
unfolding kid_bytes bytes_of4 bytes_of2
kid-length k = refl

-- ── one child ──

-- five numbers that are read alike make children that are
pub kid-same : (xs ys : List ℕ) (i j : ℕ) → ((n : ℕ) → n ≤ 16 → four_at xs (i + n) ≡ four_at ys (j + n)) → kid_at xs i ≡ kid_at ys j
unfolding kid_at
kid-same xs ys i j f =
    let z : i ≡ i + 0 = omega arith in
    let y : j ≡ j + 0 = omega arith in
    let e : four_at xs i ≡ four_at ys j = ap (four_at xs) z ∙ f 0 (omega arith) ∙ sym (ap (four_at ys) y) in
    rw (e, f 4 (omega arith), f 8 (omega arith), f 12 (omega arith), f 16 (omega arith))

sums : (a j k : ℕ) → a + (j + k) ≡ a + j + k
sums a j k = omega arith

pub kid-drop : (m : List ℕ) (a j : ℕ) → kid_at (drop a m) j ≡ kid_at m (a + j)
kid-drop m a j = kid-same (drop a m) m j (a + j) (λ n l. four-drop m a (j + n) ∙ ap (four_at m) (sums a j n))

pub kid-part : (m : List ℕ) (a n j : ℕ) → j + 20 ≤ n → kid_at (take n (drop a m)) j ≡ kid_at m (a + j)
kid-part m a n j h = kid-same (take n (drop a m)) m j (a + j) (λ k l. four-part m a n (j + k) (omega arith) ∙ ap (four_at m) (sums a j k))

kid-before : (i : ℕ) (x m : List ℕ) → i + length x ≤ length m → 20 ≤ i → kid_at (overlaid i x m) 0 ≡ kid_at m 0
kid-before i x m h k = kid-same (overlaid i x m) m 0 0 (λ n l. four-before i x m h (0 + n) (omega arith))

-- what was written is read
pub kid-back : (k : Kid) (r : List ℕ) → Fits k → kid_at (kid_bytes k ++ r) 0 ≡ k
unfolding kid_at kid_bytes four_at two_at bytes_of4 bytes_of2
kid-back k r f =
    rw (
      four-whole k.slot f.slot,
      four-whole k.info.bytes f.bytes,
      four-whole k.info.chars f.chars,
      four-whole k.info.utf16_surrogates f.surrogates,
      four-whole k.info.line_breaks f.breaks,
    )

kid-rest : (k : Kid) (r : List ℕ) → drop 20 (kid_bytes k ++ r) ≡ r
unfolding kid_bytes bytes_of4 bytes_of2
kid-rest k r = refl

-- its five numbers, written one behind the other
pub kid-laid : (m m₁ m₂ m₃ m₄ m₅ : List ℕ) (p : ℕ) (k : Kid) → p + 20 ≤ length m
    → m₁ ≡ overlaid p (bytes_of4 k.slot) m → m₂ ≡ overlaid (p + 4) (bytes_of4 k.info.bytes) m₁ → m₃ ≡ overlaid (p + 8) (bytes_of4 k.info.chars) m₂
    → m₄ ≡ overlaid (p + 12) (bytes_of4 k.info.utf16_surrogates) m₃ → m₅ ≡ overlaid (p + 16) (bytes_of4 k.info.line_breaks) m₄
    → m₅ ≡ overlaid p (kid_bytes k) m
unfolding kid_bytes bytes_of4 bytes_of2
kid-laid m m₁ m₂ m₃ m₄ m₅ p k h e₁ e₂ e₃ e₄ e₅ =
    let v₁ = bytes_of4 k.slot in
    let v₂ = v₁ ++ bytes_of4 k.info.bytes in
    let v₃ = v₂ ++ bytes_of4 k.info.chars in
    let v₄ = v₃ ++ bytes_of4 k.info.utf16_surrogates in
    let more : (i j : ℕ) (x y l n : List ℕ) → i + length x ≡ j → j ≤ length m → l ≡ overlaid i x m → n ≡ overlaid j y l → n ≡ overlaid i (x ++ y) m = λ i j x y l n e g f d. d ∙ ap (overlaid j y) f ∙ over-join i j x y m e g in
    let f₂ = more p (p + 4) v₁ (bytes_of4 k.info.bytes) m₁ m₂ refl (omega arith) e₁ e₂ in
    let f₃ = more p (p + 8) v₂ (bytes_of4 k.info.chars) m₂ m₃ refl (omega arith) f₂ e₃ in
    let f₄ = more p (p + 12) v₃ (bytes_of4 k.info.utf16_surrogates) m₃ m₄ refl (omega arith) f₃ e₄ in
    more p (p + 16) v₄ (bytes_of4 k.info.line_breaks) m₄ m₅ refl (omega arith) f₄ e₅

-- ── n entries, and sixteen ──

from-length : (n : ℕ) (b : List ℕ) → length (kids_from n b) ≡ n
unfolding kids_from
from-length zero b = refl
from-length (suc n) b = ap suc (from-length n (drop 20 b))

from_at : (n i : ℕ) (b : List ℕ) → i < n → get_or (kids_from n b) i no_kid ≡ kid_at b (20 * i)
unfolding kids_from
from_at zero i b h = elim h [ ]
from_at (suc n) zero b h = refl
from_at (suc n) (suc i) b h =
    let e : 20 + 20 * i ≡ 20 * suc i = omega arith in
    from_at n i (drop 20 b) (omega arith) ∙ kid-drop b 20 (20 * i) ∙ ap (kid_at b) e

from-put : (n i : ℕ) (b : List ℕ) (k : Kid) → Fits k → i < n → 20 * n ≤ length b → kids_from n (overlaid (20 * i) (kid_bytes k) b) ≡ set (kids_from n b) i k
unfolding kids_from
from-put zero i b k f h l = elim h [ ]
from-put (suc n) zero b k f h l = rw (kid-length k, kid-back k (drop 20 b) f, kid-rest k (drop 20 b))
from-put (suc n) (suc i) b k f h l =
    let e : 20 * suc i ≡ 20 + 20 * i = omega arith in
    rw (e, kid-before (20 + 20 * i) (kid_bytes k) b (omega (arith, kid-length k)) (omega arith), over-drop 20 (20 * i) (kid_bytes k) b (omega arith))
    (ap (λ (r : List Kid). kid_at b 0 ∷ r) (from-put n i (drop 20 b) k f (omega arith) (omega (arith, length-drop 20 b))))

module _ (region : List ℕ) where
  pub entries-length : length (entries region) ≡ 16
  unfolding entries
  entries-length = from-length 16 region

  -- THEOREM: an entry lies 20 bytes behind the one before
  pub entry_at : (i : ℕ) → i < 16 → get_or (entries region) i no_kid ≡ kid_at region (20 * i)
  unfolding entries
  entry_at i h = from_at 16 i region h

  -- THEOREM: writing an entry sets that one alone
  pub entry-put : (i : ℕ) (k : Kid) → Fits k → i < 16 → 320 ≤ length region → entries (overlaid (20 * i) (kid_bytes k) region) ≡ set (entries region) i k
  unfolding entries
  entry-put i k f h l = from-put 16 i region k f h l
