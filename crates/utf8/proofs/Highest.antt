-- The highest of some bytes: which bounds it has, and that ASCII is text.
use mathlib.Core.Path.{◌≡◌, refl, sym, ap, ◌∙◌}
use mathlib.Core.Bool.{Bool, true, false, ◌&&◌, cond, and-false}
use mathlib.Core.List.{List, [], ◌∷◌}
use Prim.Native.Nat.{ℕ, zero, suc, ◌+◌, ◌≤◌, ◌<◌, suc-le-suc}
use native.Mathlib.Numerals.{add-one}
use native.Mathlib.Omega.{arith}
use lib.Dec.{ltb}
use lib.ListN.{length, get_or, drop, drop_of_length-le}
use lib.Seq.{drop-cons}
use borrow.Author.Tests.{ltb-true, ltb-false, lt-ltb, le-ltb}
use Rattle.plain.specs.Utf8.{due, valid_utf8}
use Rattle.plain.proofs.Logic.{cut}
use Rattle.plain.proofs.Utf8.{due-ascii}
use Rattle.utf8.specs.Bmp.{highest}

-- it is one of the two, and none is above it
pub data Top (b : ℕ) (s : List ℕ) : Type 0 where
  later : highest (b ∷ s) ≡ highest s → b ≤ highest s → Top b s
  first : highest (b ∷ s) ≡ b → highest s ≤ b → Top b s

pub top : (b : ℕ) (s : List ℕ) → Top b s
unfolding highest
top b s = go (ltb b (highest s)) refl
  where
    go : (t : Bool) → ltb b (highest s) ≡ t → Top b s
    go true e = later (ap (λ (t : Bool). cond t (highest s) b) e) (omega (arith, ltb-true b (highest s) e))
    go false e = first (ap (λ (t : Bool). cond t (highest s) b) e) (ltb-false b (highest s) e)

top-most : (b : ℕ) (s : List ℕ) → (b ≤ highest (b ∷ s)) × (highest s ≤ highest (b ∷ s))
top-most b s = go (top b s)
  where
    go : Top b s → (b ≤ highest (b ∷ s)) × (highest s ≤ highest (b ∷ s))
    go (later e l) = (omega arith, omega arith)
    go (first e l) = (omega arith, omega arith)

pub at_most : (s : List ℕ) (i : ℕ) → i < length s → get_or s i 0 ≤ highest s
at_most [] i h = absurd (omega arith)
at_most (b ∷ s) zero h = (top-most b s).0
at_most (b ∷ s) (suc i) h = omega (arith, (top-most b s).1, at_most s i (omega arith))

pub least : (s : List ℕ) (h : ℕ) → ((i : ℕ) → i < length s → get_or s i 0 ≤ h) → highest s ≤ h
least [] h f = unfold highest in omega arith
least (b ∷ s) h f = go (top b s) (least s h (λ i g. f (suc i) (suc-le-suc g)))
  where
    go : Top b s → highest s ≤ h → highest (b ∷ s) ≤ h
    go (later e l) k = omega arith
    go (first e l) k = omega (arith, f 0 (omega arith))

-- both are below what the highest is below
pub below_both : (b : ℕ) (s : List ℕ) (k : ℕ) → highest (b ∷ s) < k → (b < k) × (highest s < k)
below_both b s k h = let m = top-most b s in (omega arith, omega arith)

-- the test of the highest is that of each
pub below-cons : (b : ℕ) (s : List ℕ) (k : ℕ) → (ltb b k && ltb (highest s) k) ≡ ltb (highest (b ∷ s)) k
below-cons b s k = cut (highest (b ∷ s)) k under over
  where
    under : highest (b ∷ s) < k → (ltb b k && ltb (highest s) k) ≡ ltb (highest (b ∷ s)) k
    under h = let l = below_both b s k h in simp (lt-ltb b k l.0, lt-ltb (highest s) k l.1, lt-ltb (highest (b ∷ s)) k h)

    over : k ≤ highest (b ∷ s) → (ltb b k && ltb (highest s) k) ≡ ltb (highest (b ∷ s)) k
    over h = go (top b s) ∙ sym (le-ltb (highest (b ∷ s)) k h)
      where
        go : Top b s → (ltb b k && ltb (highest s) k) ≡ false
        go (later e l) = ap (λ (t : Bool). ltb b k && t) (le-ltb (highest s) k (omega arith)) ∙ and-false (ltb b k)
        go (first e l) = ap (λ (t : Bool). t && ltb (highest s) k) (le-ltb b k (omega arith))

-- one byte more of a part
pub below-turn : (s : List ℕ) (i k : ℕ) → i < length s → (ltb (get_or s i 0) k && ltb (highest (drop (i + 1) s)) k) ≡ ltb (highest (drop i s)) k
below-turn s i k h = rw (add-one, drop-cons s i 0) (below-cons (get_or s i 0) (drop (suc i) s) k)

-- behind the last byte
pub below_end : (s : List ℕ) (e k : ℕ) → length s ≤ e → 0 < k → ltb (highest (drop e s)) k ≡ true
unfolding highest
below_end s e k h p = rw (drop_of_length-le s h) (lt-ltb 0 k p)

-- ASCII is text
pub ascii-valid : (s : List ℕ) → highest s < 0x80 → valid_utf8 s ≡ true
unfolding valid_utf8
ascii-valid [] h = unfold due in refl
ascii-valid (b ∷ s) h = let l = below_both b s 0x80 h in due-ascii 0x80 0xBF b s l.0 ∙ ascii-valid s l.1
