-- Two neighbours that may be joined, what they become, and the seams of two families behind each other. No call needs it; the laws do.
use mathlib.Core.Path.{◌≡◌, refl, sym, ap, ◌∙◌}
use mathlib.Core.Bool.{Bool, true, false, not, ◌&&◌}
use mathlib.Core.List.{List, [], ◌∷◌, ◌++◌, append-nil, map}
use Prim.Native.Nat.{ℕ, zero, suc, ◌+◌, ◌≤◌, ◌<◌}
use native.Mathlib.Omega.{arith}
use lib.ListN.{length}
use Rattle.plain.specs.Count.{cr_last, lf_first}
use Rattle.plain.specs.Outcome.{Outcome.value}
use Rattle.plain.proofs.Logic.{and_left, and_right, and_none}
use Rattle.pool.specs.Slot.{len_of}
use Rattle.nodes.specs.Node.{counts_of}
use Rattle.tree.specs.Tree.{join_over, every, bytes_below, hit, uses, seamless, least_at, sound}
use Rattle.tree.proofs.Lists.{both, join-cons, join-none, join-filled, every-head, every-tail}
use Rattle.tree.proofs.Seams.{lf-none, cr-append, lf-append, seam-at}
use Rattle.tree.proofs.Sound.{leaf-uses, list-uses}
use Rattle.tree.proofs.Frame.{hit-self}
use Rattle.merge.specs.Join.{joined}
use Rattle.edit_steps.specs.Became.{free, Slotted}
use Rattle.edit_steps.specs.Grown.{Grown, kid}

-- nodes of height g in slots a and b, whole but for their size, and large enough together
pub record Pair (m : List ℕ) (n g a b : ℕ) : Type 0 where
  pub few : n < 4294967296
  pub slotted : Slotted m n
  pub left_there : a < n
  pub right_there : b < n
  pub left : sound m 0 g a ≡ true
  pub right : sound m 0 g b ≡ true
  pub once : (x : ℕ) → uses m g a x + uses m g b x + free m n x ≤ 1
  pub seam : (cr_last (bytes_below m g a) && lf_first (bytes_below m g b)) ≡ false
  pub short : length (bytes_below m g a) + length (bytes_below m g b) < 4294967296
  pub enough : least_at g ≤ len_of m a + len_of m b
  pub most : len_of m a + len_of m b ≤ 768

-- merged: one child in slot a, and slot b is left; u are the slots of both but b
pub record Merges (m : List ℕ) (n g a b : ℕ) (l : List ℕ) : Type 0 where
  pub u : ℕ → ℕ
  pub parts : (x : ℕ) → u x + hit b x ≡ uses m g a x + uses m g b x
  pub accepted : joined m a b ≡ value (true, l)
  pub grown : Grown m l n 0 u g (kid a (counts_of l a) ∷ []) (bytes_below m g a ++ bytes_below m g b)

-- distributed: a child in each
pub record Shares (m : List ℕ) (n g a b : ℕ) (l : List ℕ) : Type 0 where
  pub accepted : joined m a b ≡ value (false, l)
  pub grown : Grown m l n 0 (λ x. uses m g a x + uses m g b x) g (kid a (counts_of l a) ∷ kid b (counts_of l b) ∷ []) (bytes_below m g a ++ bytes_below m g b)

-- a node uses its own slot
pub uses-self : (m : List ℕ) (g s : ℕ) → 1 ≤ uses m g s s
uses-self m zero s = omega (arith, leaf-uses m s s, hit-self s)
uses-self m (suc g) s = omega (arith, list-uses m s g s, hit-self s)

pub slots_apart : (m : List ℕ) (n g a b : ℕ) → Pair m n g a b → a ≡ b → ⊥
slots_apart m n g a b p q = omega (arith, p.once a, uses-self m g a, ap (λ (s : ℕ). uses m g s a) q)

-- ── seams ──

pub text-one : {A : Type 0} (f : A → List ℕ) (x : A) → join_over f (x ∷ []) ≡ f x
text-one f x = join-cons f x [] ∙ ap (λ (l : List ℕ). f x ++ l) (join-none f) ∙ append-nil (f x)

pub seam-one : {A : Type 0} (f : A → List ℕ) (x : A) → seamless (map f (x ∷ [])) ≡ true
unfolding seamless
seam-one f x = refl

pub seam-two : {A : Type 0} (f : A → List ℕ) (x y : A) → (cr_last (f x) && lf_first (f y)) ≡ false → seamless (map f (x ∷ y ∷ [])) ≡ true
unfolding seamless
seam-two f x y e = both (not (cr_last (f x) && lf_first (f y))) true (ap not e) refl

module _ {A : Type 0} (f : A → List ℕ) (p : A → Bool) (filled : (k : A) → p k ≡ true → 1 ≤ length (f k)) where
  pub seam-append : (ks ls : List A) → every p ks ≡ true → every p ls ≡ true → seamless (map f ks) ≡ true → seamless (map f ls) ≡ true
      → (cr_last (join_over f ks) && lf_first (join_over f ls)) ≡ false → seamless (map f (ks ++ ls)) ≡ true
  unfolding seamless
  seam-append [] ls e h s t c = t
  seam-append (x ∷ []) [] e h s t c = refl
  seam-append (x ∷ []) (l ∷ ls) e h s t c =
      let first : lf_first (join_over f (l ∷ ls)) ≡ lf_first (f l) = ap lf_first (join-cons f l ls) ∙ lf-append (f l) (join_over f ls) (filled l (every-head p l ls h)) in
      both (not (cr_last (f x) && lf_first (f l))) (seamless (map f (l ∷ ls)))
      (ap not (ap (λ (y : List ℕ). cr_last y && lf_first (f l)) (sym (text-one f x)) ∙ ap (λ (y : Bool). cr_last (join_over f (x ∷ [])) && y) (sym first) ∙ c)) t
  seam-append (x ∷ y ∷ ys) ls e h s t c =
      let r = every-tail p x (y ∷ ys) e in
      let last : cr_last (join_over f (x ∷ y ∷ ys)) ≡ cr_last (join_over f (y ∷ ys)) =
      ap cr_last (join-cons f x (y ∷ ys)) ∙ cr-append (f x) (join_over f (y ∷ ys)) (join-filled f y ys (filled y (every-head p y ys r))) in
      both (not (cr_last (f x) && lf_first (f y))) (seamless (map f ((y ∷ ys) ++ ls)))
      (and_left (not (cr_last (f x) && lf_first (f y))) (seamless (map f (y ∷ ys))) s)
      (seam-append (y ∷ ys) ls r h (and_right (not (cr_last (f x) && lf_first (f y))) (seamless (map f (y ∷ ys))) s) t
      (ap (λ (z : Bool). z && lf_first (join_over f ls)) (sym last) ∙ c))

  pub seam-between : (ks ls : List A) → every p ks ≡ true → every p ls ≡ true → seamless (map f (ks ++ ls)) ≡ true → (cr_last (join_over f ks) && lf_first (join_over f ls)) ≡ false
  seam-between ks [] e h s =
      ap (λ (t : List ℕ). cr_last (join_over f ks) && lf_first t) (join-none f) ∙ ap (λ (t : Bool). cr_last (join_over f ks) && t) lf-none ∙ and_none (cr_last (join_over f ks))
  seam-between ks (k ∷ r) e h s =
      ap (λ (t : List ℕ). cr_last (join_over f ks) && lf_first t) (join-cons f k r)
      ∙ ap (λ (t : Bool). cr_last (join_over f ks) && t) (lf-append (f k) (join_over f r) (filled k (every-head p k r h)))
      ∙ seam-at f p filled ks k r e s
