-- The laws of numbers in bytes: what was written is read, and what is written elsewhere is not.
use mathlib.Core.Path.{◌≡◌, refl, sym, ap, ◌∙◌}
use mathlib.Core.List.{List, [], ◌++◌}
use Prim.Native.Nat.{ℕ, ◌+◌, ◌*◌, ◌/◌, ◌%◌, ◌≤◌, ◌<◌}
use native.Mathlib.Omega.{arith}
use lib.ListN.{length, take, drop, get_or}
use lib.Seq.{get_or-take, get_or-drop}
use Rattle.octets.specs.Over.{overlaid}
use Rattle.octets.specs.Big.{two_at, four_at, bytes_of2, bytes_of4}
use Rattle.octets.proofs.Over.{byte-before, byte-in, byte-behind}

pub two-length : (v : ℕ) → length (bytes_of2 v) ≡ 2
unfolding bytes_of2
two-length v = refl

pub four-length : (v : ℕ) → length (bytes_of4 v) ≡ 4
unfolding bytes_of2 bytes_of4
four-length v = refl

-- ── two lists with the same bytes where they are read ──

pub two-same : (xs ys : List ℕ) (i j : ℕ) → get_or xs i 0 ≡ get_or ys j 0 → get_or xs (i + 1) 0 ≡ get_or ys (j + 1) 0 → two_at xs i ≡ two_at ys j
unfolding two_at
two-same xs ys i j e f = omega arith

pub four_same : (xs ys : List ℕ) (i j : ℕ) → ((k : ℕ) → k < 4 → get_or xs (i + k) 0 ≡ get_or ys (j + k) 0) → four_at xs i ≡ four_at ys j
unfolding four_at
four_same xs ys i j f =
    let shift : (l : List ℕ) (a b c n : ℕ) → a + b ≡ c → get_or l c 0 ≡ n → get_or l (a + b) 0 ≡ n = λ l a b c n e g. ap (λ (q : ℕ). get_or l q 0) e ∙ g in
    let z : i ≡ i + 0 = omega arith in
    let y : j ≡ j + 0 = omega arith in
    let e0 : get_or xs i 0 ≡ get_or ys j 0 = ap (λ (q : ℕ). get_or xs q 0) z ∙ f 0 (omega arith) ∙ sym (ap (λ (q : ℕ). get_or ys q 0) y) in
    let e3 : get_or xs (i + 2 + 1) 0 ≡ get_or ys (j + 2 + 1) 0 = shift xs (i + 2) 1 (i + 3) _ (omega arith) (f 3 (omega arith) ∙ sym (shift ys (j + 2) 1 (j + 3) _ (omega arith) refl)) in
    let lo = two-same xs ys i j e0 (f 1 (omega arith)) in
    let hi = two-same xs ys (i + 2) (j + 2) (f 2 (omega arith)) e3 in
    omega arith

-- in a part of a list
module _ (m : List ℕ) (a n j : ℕ) where
  byte-part : (k : ℕ) → k < n → get_or (take n (drop a m)) k 0 ≡ get_or m (a + k) 0
  byte-part k h = get_or-take n (drop a m) k 0 h ∙ get_or-drop a m k 0

  pub two-part : j + 2 ≤ n → two_at (take n (drop a m)) j ≡ two_at m (a + j)
  two-part h =
      let z : a + (j + 1) ≡ a + j + 1 = omega arith in
      two-same (take n (drop a m)) m j (a + j) (byte-part j (omega arith)) (byte-part (j + 1) (omega arith) ∙ ap (λ (q : ℕ). get_or m q 0) z)

  pub four-part : j + 4 ≤ n → four_at (take n (drop a m)) j ≡ four_at m (a + j)
  four-part h = four_same (take n (drop a m)) m j (a + j) (λ k l. byte-part (j + k) (omega arith) ∙ ap (λ (q : ℕ). get_or m q 0) (sums a j k))
    where
      sums : (a j k : ℕ) → a + (j + k) ≡ a + j + k
      sums a j k = omega arith

pub four-drop : (m : List ℕ) (a j : ℕ) → four_at (drop a m) j ≡ four_at m (a + j)
four-drop m a j = four_same (drop a m) m j (a + j) (λ k l. get_or-drop a m (j + k) 0 ∙ ap (λ (q : ℕ). get_or m q 0) (sums a j k))
  where
    sums : (a j k : ℕ) → a + (j + k) ≡ a + j + k
    sums a j k = omega arith

-- ── after bytes have been laid over others ──

module _ (i : ℕ) (x m : List ℕ) (h : i + length x ≤ length m) where
  pub four-before : (j : ℕ) → j + 4 ≤ i → four_at (overlaid i x m) j ≡ four_at m j
  four-before j k = four_same (overlaid i x m) m j j (λ n l. byte-before i x m h (j + n) (omega arith))

  pub four-behind : (j : ℕ) → i + length x ≤ j → four_at (overlaid i x m) j ≡ four_at m j
  four-behind j k = four_same (overlaid i x m) m j j (λ n l. byte-behind i x m h (j + n) (omega arith))

  pub four-in : (j : ℕ) → j + 4 ≤ length x → four_at (overlaid i x m) (i + j) ≡ four_at x j
  four-in j k = four_same (overlaid i x m) x (i + j) j (λ n l. ap (λ (q : ℕ). get_or (overlaid i x m) q 0) (sums i j n) ∙ byte-in i x m h (j + n) (omega arith))
    where
      sums : (a j k : ℕ) → a + j + k ≡ a + (j + k)
      sums a j k = omega arith

  pub two-before : (j : ℕ) → j + 2 ≤ i → two_at (overlaid i x m) j ≡ two_at m j
  two-before j k = two-same (overlaid i x m) m j j (byte-before i x m h j (omega arith)) (byte-before i x m h (j + 1) (omega arith))

  pub two-behind : (j : ℕ) → i + length x ≤ j → two_at (overlaid i x m) j ≡ two_at m j
  two-behind j k = two-same (overlaid i x m) m j j (byte-behind i x m h j k) (byte-behind i x m h (j + 1) (omega arith))

  pub two_in : (j : ℕ) → j + 2 ≤ length x → two_at (overlaid i x m) (i + j) ≡ two_at x j
  two_in j k =
      let z : i + j + 1 ≡ i + (j + 1) = omega arith in
      two-same (overlaid i x m) x (i + j) j (byte-in i x m h j (omega arith)) (ap (λ (q : ℕ). get_or (overlaid i x m) q 0) z ∙ byte-in i x m h (j + 1) (omega arith))

-- ── what was written is read ──

pub two_back : (v : ℕ) (r : List ℕ) → v < 65536 → two_at (bytes_of2 v ++ r) 0 ≡ v
unfolding two_at bytes_of2
two_back v r h = omega arith

-- the four bytes of a number make it up again
pub four-whole : (v : ℕ) → v < 4294967296 → (v / 65536 / 256 % 256 * 256 + v / 65536 % 256) * 65536 + (v % 65536 / 256 % 256 * 256 + v % 65536 % 256) ≡ v
four-whole v h =
    ap (λ (n : ℕ). n * 65536 + (v % 65536 / 256 % 256 * 256 + v % 65536 % 256)) (halves (v / 65536) (omega arith))
    ∙ ap (λ (n : ℕ). v / 65536 * 65536 + n) (halves (v % 65536) (omega arith))
    ∙ whole v
  where
    halves : (n : ℕ) → n < 65536 → n / 256 % 256 * 256 + n % 256 ≡ n
    halves n h = omega arith

    whole : (n : ℕ) → n / 65536 * 65536 + n % 65536 ≡ n
    whole n = omega arith

pub four-back : (v : ℕ) (r : List ℕ) → v < 4294967296 → four_at (bytes_of4 v ++ r) 0 ≡ v
unfolding four_at two_at bytes_of2 bytes_of4
four-back v r h = four-whole v h

-- THEOREM: what was written is read
pub two-written : (i v : ℕ) (m : List ℕ) → i + 2 ≤ length m → v < 65536 → two_at (overlaid i (bytes_of2 v) m) i ≡ v
unfolding bytes_of2
two-written i v m h k =
    let z : i + 0 ≡ i = omega arith in
    ap (two_at (overlaid i (bytes_of2 v) m)) (sym z) ∙ two_in i (bytes_of2 v) m h 0 (omega arith) ∙ two_back v [] k

pub four-written : (i v : ℕ) (m : List ℕ) → i + 4 ≤ length m → v < 4294967296 → four_at (overlaid i (bytes_of4 v) m) i ≡ v
unfolding bytes_of2 bytes_of4
four-written i v m h k =
    let z : i + 0 ≡ i = omega arith in
    ap (four_at (overlaid i (bytes_of4 v) m)) (sym z) ∙ four-in i (bytes_of4 v) m h 0 (omega arith) ∙ four-back v [] k
