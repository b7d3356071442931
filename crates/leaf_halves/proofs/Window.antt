-- A leaf with a piece put in, read byte by byte without joining them.
use mathlib.Core.Path.{◌≡◌, sym, ap, ◌∙◌}
use mathlib.Core.List.{List, [], ◌∷◌, ◌++◌}
use Prim.Native.Nat.{ℕ, suc, ◌+◌, ◌-◌, ◌≤◌, ◌<◌}
use native.Mathlib.Omega.{arith}
use lib.ListN.{length, get_or, take, drop, set, length-drop, get_or-append}
use lib.Seq.{length-take-le, get_or-take, get_or-drop, get_or-append-add, take-suc, take-suc-set}
use Rattle.plain.specs.Edit.{put_in}
use Rattle.plain.proofs.Edit.{replaced-length}

module _ (l s : List ℕ) (a : ℕ) (h : a ≤ length l) where
  front : length (take a l) ≡ a
  front = length-take-le a l h

  pub put-length : length (put_in a s l) ≡ length l + length s
  put-length = omega (arith, replaced-length a a s l (omega arith) h)

  -- before the piece, in it, and behind it
  pub put-before : (i : ℕ) → i < a → get_or l i 0 ≡ get_or (put_in a s l) i 0
  put-before i k = sym (get_or-append (take a l) (s ++ drop a l) 0 i (omega (arith, front)) ∙ get_or-take a l i 0 k)

  pub put-within : (i : ℕ) → a ≤ i → i - a < length s → get_or s (i - a) 0 ≡ get_or (put_in a s l) i 0
  put-within i k m =
      let z : i ≡ length (take a l) + (i - a) = omega (arith, front) in
      sym
      (ap (λ (n : ℕ). get_or (put_in a s l) n 0) z
      ∙ get_or-append-add (take a l) (s ++ drop a l) (i - a) 0
      ∙ get_or-append s (drop a l) 0 (i - a) m)

  pub put-behind : (i : ℕ) → a + length s ≤ i → get_or l (i - length s) 0 ≡ get_or (put_in a s l) i 0
  put-behind i k =
      let z : i ≡ length (take a l) + (length s + (i - length s - a)) = omega (arith, front) in
      let y : a + (i - length s - a) ≡ i - length s = omega arith in
      sym
      (ap (λ (n : ℕ). get_or (put_in a s l) n 0) z
      ∙ get_or-append-add (take a l) (s ++ drop a l) (length s + (i - length s - a)) 0
      ∙ get_or-append-add s (drop a l) (i - length s - a) 0
      ∙ get_or-drop a l (i - length s - a) 0
      ∙ ap (λ (n : ℕ). get_or l n 0) y)

-- a byte more of a text t, read from w on into a buffer
pub window-turn : (t buf : List ℕ) (w i v : ℕ) → w ≤ i → i < length t → i - w < length buf → take (i - w) buf ≡ take (i - w) (drop w t) → v ≡ get_or t i 0
    → take (i + 1 - w) (set buf (i - w) v) ≡ take (i + 1 - w) (drop w t)
window-turn t buf w i v h k m e f =
    let j = i - w in
    let z : i + 1 - w ≡ suc j = omega arith in
    let y : w + j ≡ i = omega arith in
    ap (λ (n : ℕ). take n (set buf j v)) z
    ∙ take-suc-set buf j v m
    ∙ ap (λ (q : List ℕ). q ++ (v ∷ [])) e
    ∙ ap (λ (x : ℕ). take j (drop w t) ++ (x ∷ [])) (f ∙ ap (λ (n : ℕ). get_or t n 0) (sym y) ∙ sym (get_or-drop w t j 0))
    ∙ sym (take-suc (drop w t) j 0 (omega (arith, length-drop w t)))
    ∙ sym (ap (λ (n : ℕ). take n (drop w t)) z)
