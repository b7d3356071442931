-- Bytes laid over others, read part by part.
use mathlib.Core.Path.{◌≡◌, sym, ap, ◌∙◌}
use mathlib.Core.List.{List, [], ◌∷◌, ◌++◌, append_assoc}
use Prim.Native.Nat.{ℕ, zero, suc, ◌+◌, ◌-◌, ◌≤◌, ◌<◌}
use native.Mathlib.Omega.{arith}
use native.Mathlib.Numerals.{add-one}
use lib.ListN.{length, take, drop, get_or, set, length-append, length-drop, get_or-append}
use lib.Seq.{length-take-le, take-take, drop-drop, take-nil, take-append-add, drop-append-le, take_at, drop_at, get_or-take, get_or-drop, get_or-append-add, sets-eq}
use borrow.Rule.Slice.PartMut.{put_mid, Post-is}
use Rattle.plain.proofs.Edit.{replaced-length, replaced-front, replaced-rest}
use Rattle.octets.specs.Over.{overlaid}

-- a part of a list, from either end
pub part-is : (i n : ℕ) (l : List ℕ) → drop i (take n l) ≡ take (n - i) (drop i l)
part-is zero n l = let z : n - 0 ≡ n = omega arith in ap (λ (k : ℕ). take k l) (sym z)
part-is (suc i) zero l = let z : zero - suc i ≡ 0 = omega arith in ap (λ (k : ℕ). take k (drop (suc i) l)) (sym z)
part-is (suc i) (suc n) [] = sym (take-nil (suc n - suc i))
part-is (suc i) (suc n) (x ∷ l) = let z : suc n - suc i ≡ n - i = omega arith in part-is i n l ∙ ap (λ (k : ℕ). take k (drop i l)) (sym z)

pub overlaid-length : (i : ℕ) (x l : List ℕ) → i + length x ≤ length l → length (overlaid i x l) ≡ length l
overlaid-length i x l h = omega (arith, replaced-length i (i + length x) x l (omega arith) h)

-- ── the parts that it leaves alone ──

module _ (i : ℕ) (x m : List ℕ) (h : i + length x ≤ length m) where
  pub over-front : (q : ℕ) → q ≤ i → take q (overlaid i x m) ≡ take q m
  over-front q k = replaced-front i (i + length x) x m q (omega arith) k

  pub over-rest : (q : ℕ) → i + length x ≤ q → drop q (overlaid i x m) ≡ drop q m
  over-rest q k =
      let z : i + length x + (q - (i + length x)) ≡ q = omega arith in
      rw z at (replaced-rest i (i + length x) x m (q - (i + length x)) (omega arith))

  pub part-before : (a n : ℕ) → a + n ≤ i → take n (drop a (overlaid i x m)) ≡ take n (drop a m)
  part-before a n k =
      let z : a + n - a ≡ n = omega arith in
      let cut : (l : List ℕ) → drop a (take (a + n) l) ≡ take n (drop a l) = λ l. part-is a (a + n) l ∙ ap (λ (j : ℕ). take j (drop a l)) z in
      sym (cut (overlaid i x m)) ∙ ap (drop a) (over-front (a + n) k) ∙ cut m

  pub part-behind : (a n : ℕ) → i + length x ≤ a → take n (drop a (overlaid i x m)) ≡ take n (drop a m)
  part-behind a n k = ap (take n) (over-rest a k)

-- ── the part that it lies in ──

-- behind the first a bytes, and in the first n
pub over-drop : (a j : ℕ) (x m : List ℕ) → a + j ≤ length m → drop a (overlaid (a + j) x m) ≡ overlaid j x (drop a m)
over-drop a j x m h =
    let long : length (take (a + j) m) ≡ a + j = length-take-le (a + j) m h in
    let y : a + j - a ≡ j = omega arith in
    let z : a + j + length x ≡ a + (j + length x) = omega arith in
    drop-append-le a (take (a + j) m) (x ++ drop (a + j + length x) m) (omega arith)
    ∙ ap (λ (l : List ℕ). l ++ (x ++ drop (a + j + length x) m)) (part-is a (a + j) m ∙ ap (λ (n : ℕ). take n (drop a m)) y)
    ∙ ap (λ (l : List ℕ). take j (drop a m) ++ (x ++ l)) (ap (λ (n : ℕ). drop n m) z ∙ sym (drop-drop (j + length x) a m))

pub over-take : (j n : ℕ) (x l : List ℕ) → j ≤ length l → j + length x ≤ n → take n (overlaid j x l) ≡ overlaid j x (take n l)
over-take j n x l h k =
    let long : length (take j l) ≡ j = length-take-le j l h in
    let r = n - (j + length x) in
    let z : n ≡ length (take j l) + (length x + r) = omega arith in
    ap (λ (i : ℕ). take i (overlaid j x l)) z
    ∙ take-append-add (take j l) (x ++ drop (j + length x) l) (length x + r)
    ∙ ap (λ (q : List ℕ). take j l ++ q) (take-append-add x (drop (j + length x) l) r)
    ∙ ap (λ (q : List ℕ). take j l ++ (x ++ q)) (sym (part-is (j + length x) n l))
    ∙ ap (λ (q : List ℕ). q ++ (x ++ drop (j + length x) (take n l))) (sym (take-take j n l (omega arith)))

pub part-over : (a j n : ℕ) (x m : List ℕ) → a + j ≤ length m → j + length x ≤ n → take n (drop a (overlaid (a + j) x m)) ≡ overlaid j x (take n (drop a m))
part-over a j n x m h k = ap (take n) (over-drop a j x m h) ∙ over-take j n x (drop a m) (omega (arith, length-drop a m)) k

-- what was laid is there
pub part-is-laid : (a n : ℕ) (x m : List ℕ) → a ≤ length m → length x ≡ n → take n (drop a (overlaid a x m)) ≡ x
part-is-laid a n x m h e = ap (take n) (drop_at (take a m) (x ++ drop (a + length x) m) a (length-take-le a m h)) ∙ take_at x (drop (a + length x) m) n e

-- ── byte by byte ──

module _ (i : ℕ) (x m : List ℕ) (h : i + length x ≤ length m) where
  front_long : length (take i m) ≡ i
  front_long = length-take-le i m (omega arith)

  pub byte-before : (j : ℕ) → j < i → get_or (overlaid i x m) j 0 ≡ get_or m j 0
  byte-before j k = get_or-append (take i m) (x ++ drop (i + length x) m) 0 j (omega (arith, front_long)) ∙ get_or-take i m j 0 k

  pub byte-in : (j : ℕ) → j < length x → get_or (overlaid i x m) (i + j) 0 ≡ get_or x j 0
  byte-in j k =
      ap (λ (n : ℕ). get_or (overlaid i x m) (n + j) 0) (sym front_long)
      ∙ get_or-append-add (take i m) (x ++ drop (i + length x) m) j 0
      ∙ get_or-append x (drop (i + length x) m) 0 j k

  pub byte-behind : (j : ℕ) → i + length x ≤ j → get_or (overlaid i x m) j 0 ≡ get_or m j 0
  byte-behind j k =
      let z : i + length x + (j - (i + length x)) ≡ j = omega arith in
      let at : (l : List ℕ) → get_or (drop (i + length x) l) (j - (i + length x)) 0 ≡ get_or l j 0 = λ l. get_or-drop (i + length x) l (j - (i + length x)) 0 ∙ ap (λ (n : ℕ). get_or l n 0) z in
      sym (at (overlaid i x m)) ∙ ap (λ (l : List ℕ). get_or l (j - (i + length x)) 0) (over-rest i x m h (i + length x) (omega arith)) ∙ at m

-- ── laid one behind the other, and by two stores ──

pub over-join : (i j : ℕ) (x y m : List ℕ) → i + length x ≡ j → j ≤ length m → overlaid j y (overlaid i x m) ≡ overlaid i (x ++ y) m
over-join i j x y m e h =
    let long : length (take i m ++ x) ≡ j = omega (arith, length-append (take i m) x, length-take-le i m (omega arith)) in
    let z : j + length y ≡ i + length (x ++ y) = omega (arith, length-append x y) in
    let front : take j (overlaid i x m) ≡ take i m ++ x = ap (take j) (sym (append_assoc (take i m) x (drop (i + length x) m))) ∙ take_at (take i m ++ x) (drop (i + length x) m) j long in
    let rest : drop (j + length y) (overlaid i x m) ≡ drop (i + length (x ++ y)) m = over-rest i x m (omega arith) (j + length y) (omega arith) ∙ ap (λ (n : ℕ). drop n m) z in
    ap (λ (l : List ℕ). l ++ (y ++ drop (j + length y) (overlaid i x m))) front
    ∙ ap (λ (l : List ℕ). (take i m ++ x) ++ (y ++ l)) rest
    ∙ simp append_assoc

pub sets_over : (m : List ℕ) (i u v : ℕ) → i + 2 ≤ length m → set (set m i u) (i + 1) v ≡ overlaid i (u ∷ v ∷ []) m
sets_over m i u v h =
    ap (λ (n : ℕ). set (set m i u) n v) (add-one i)
    ∙ sets-eq (u ∷ v ∷ []) m i h
    ∙ append_assoc (take i m) (u ∷ v ∷ []) (drop (i + 2) m)

-- a part lent as `&mut m[a..e]` comes back laid over what it was
pub put-over : (a e : ℕ) (m y : List ℕ) → a ≤ e → length y ≡ e - a → put_mid a (e - a) m y ≡ overlaid a y m
put-over a e m y h k =
    let z : e ≡ a + length y = omega arith in
    ap (λ (l : List ℕ). take a m ++ (y ++ l)) (Post-is a e m h ∙ ap (λ (n : ℕ). drop n m) z)
