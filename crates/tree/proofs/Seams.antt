-- The seams between texts: what a joined text begins and ends with, and when one more text may follow.
use mathlib.Core.Path.{◌≡◌, refl, sym, ap, ◌∙◌}
use mathlib.Core.Bool.{Bool, true, false, not, ◌&&◌}
use mathlib.Core.List.{List, [], ◌∷◌, ◌++◌, append-nil, map}
use Prim.Native.Nat.{ℕ, ◌≤◌}
use native.Mathlib.Omega.{arith}
use lib.ListN.{length}
use borrow.Author.Tests.{not-true}
use Rattle.plain.specs.Count.{cr_last, lf_first}
use Rattle.plain.proofs.Logic.{and_left, and_right}
use Rattle.tree.specs.Tree.{join_over, every, seamless}
use Rattle.tree.proofs.Lists.{both, join-none, join-cons, join-filled, every-head, every-tail}

-- ── two texts ──

pub cr-none : cr_last [] ≡ false
unfolding cr_last
cr-none = refl

pub lf-none : lf_first [] ≡ false
unfolding lf_first
lf-none = refl

pub cr-append : (a b : List ℕ) → 1 ≤ length b → cr_last (a ++ b) ≡ cr_last b
unfolding cr_last
cr-append [] b h = refl
cr-append (x ∷ []) [] h = absurd (omega arith)
cr-append (x ∷ []) (y ∷ b) h = refl
cr-append (x ∷ y ∷ a) b h = cr-append (y ∷ a) b h

pub lf-append : (a b : List ℕ) → 1 ≤ length a → lf_first (a ++ b) ≡ lf_first a
unfolding lf_first
lf-append [] b h = absurd (omega arith)
lf-append (x ∷ a) b h = refl

-- ── the seams of a list of texts, none of which is empty ──

pub seam-none : {A : Type 0} (f : A → List ℕ) → seamless (map f []) ≡ true
unfolding seamless
seam-none f = refl

module _ {A : Type 0} (f : A → List ℕ) (p : A → Bool) (filled : (k : A) → p k ≡ true → 1 ≤ length (f k)) where
  one : (x : A) → join_over f (x ∷ []) ≡ f x
  one x = join-cons f x [] ∙ ap (λ (l : List ℕ). f x ++ l) (join-none f) ∙ append-nil (f x)

  last : (x y : A) (ys : List A) → p y ≡ true → cr_last (join_over f (x ∷ y ∷ ys)) ≡ cr_last (join_over f (y ∷ ys))
  last x y ys e = ap cr_last (join-cons f x (y ∷ ys)) ∙ cr-append (f x) (join_over f (y ∷ ys)) (join-filled f y ys (filled y e))

  -- one more may follow where it does not begin with the LF of a CR before it
  pub seam-more : (ks : List A) (k : A) → every p ks ≡ true → seamless (map f ks) ≡ true → (cr_last (join_over f ks) && lf_first (f k)) ≡ false → seamless (map f (ks ++ (k ∷ []))) ≡ true
  unfolding seamless
  seam-more [] k e s c = refl
  seam-more (x ∷ []) k e s c = both (not (cr_last (f x) && lf_first (f k))) true (ap (λ (l : List ℕ). not (cr_last l && lf_first (f k))) (sym (one x)) ∙ ap not c) refl
  seam-more (x ∷ y ∷ ys) k e s c =
      let t = every-tail p x (y ∷ ys) e in
      both (not (cr_last (f x) && lf_first (f y))) (seamless (map f ((y ∷ ys) ++ (k ∷ []))))
      (and_left (not (cr_last (f x) && lf_first (f y))) (seamless (map f (y ∷ ys))) s)
      (seam-more (y ∷ ys) k t (and_right (not (cr_last (f x) && lf_first (f y))) (seamless (map f (y ∷ ys))) s)
      (ap (λ (b : Bool). b && lf_first (f k)) (sym (last x y ys (every-head p y ys t))) ∙ c))

  -- and where one does follow, it does not
  pub seam-at : (ks : List A) (k : A) (rest : List A) → every p ks ≡ true → seamless (map f (ks ++ (k ∷ rest))) ≡ true → (cr_last (join_over f ks) && lf_first (f k)) ≡ false
  unfolding seamless
  seam-at [] k rest e s = ap (λ (l : List ℕ). cr_last l && lf_first (f k)) (join-none f) ∙ ap (λ (b : Bool). b && lf_first (f k)) cr-none
  seam-at (x ∷ []) k rest e s =
      ap (λ (l : List ℕ). cr_last l && lf_first (f k)) (one x) ∙ not-true (cr_last (f x) && lf_first (f k)) (and_left (not (cr_last (f x) && lf_first (f k))) (seamless (map f (k ∷ rest))) s)
  seam-at (x ∷ y ∷ ys) k rest e s =
      let t = every-tail p x (y ∷ ys) e in
      ap (λ (b : Bool). b && lf_first (f k)) (last x y ys (every-head p y ys t))
      ∙ seam-at (y ∷ ys) k rest t (and_right (not (cr_last (f x) && lf_first (f y))) (seamless (map f ((y ∷ ys) ++ (k ∷ rest)))) s)

  -- two lists of texts: the seams of each, and the one between
  pub seam-left : (ks ls : List A) → seamless (map f (ks ++ ls)) ≡ true → seamless (map f ks) ≡ true
  unfolding seamless
  seam-left [] ls s = refl
  seam-left (x ∷ []) ls s = refl
  seam-left (x ∷ y ∷ ys) ls s =
      both (not (cr_last (f x) && lf_first (f y))) (seamless (map f (y ∷ ys))) (and_left (not (cr_last (f x) && lf_first (f y))) (seamless (map f ((y ∷ ys) ++ ls))) s)
      (seam-left (y ∷ ys) ls (and_right (not (cr_last (f x) && lf_first (f y))) (seamless (map f ((y ∷ ys) ++ ls))) s))

  pub seam-right : (ks ls : List A) → seamless (map f (ks ++ ls)) ≡ true → seamless (map f ls) ≡ true
  unfolding seamless
  seam-right [] ls s = s
  seam-right (x ∷ []) [] s = refl
  seam-right (x ∷ []) (l ∷ ls) s = and_right (not (cr_last (f x) && lf_first (f l))) (seamless (map f (l ∷ ls))) s
  seam-right (x ∷ y ∷ ys) ls s = seam-right (y ∷ ys) ls (and_right (not (cr_last (f x) && lf_first (f y))) (seamless (map f ((y ∷ ys) ++ ls))) s)
