-- Texts joined, numbers added up and tests taken over a list: over two lists joined, over one element more, and at one element.
use mathlib.Core.Path.{◌≡◌, refl, sym, ap, ◌∙◌}
use mathlib.Core.Bool.{Bool, true, false, ◌&&◌, true≢false}
use mathlib.Core.List.{List, [], ◌∷◌, ◌++◌, append-nil, append_assoc}
use Prim.Native.Nat.{ℕ, zero, suc, ◌+◌, ◌≤◌, ◌<◌}
use native.Mathlib.Omega.{arith}
use lib.ListN.{length, get_or, take, drop, take-append-drop, length-append}
use lib.Seq.{split_at}
use Rattle.plain.proofs.Logic.{and_left, and_right}
use Rattle.tree.specs.Tree.{join_over, sum_over, every}

pub both : (a b : Bool) → a ≡ true → b ≡ true → (a && b) ≡ true
both true b e f = f
both false b e f = absurd (true≢false (sym e))

module _ {A : Type 0} where
  -- ── two lists joined ──

  pub join-append : (f : A → List ℕ) (a b : List A) → join_over f (a ++ b) ≡ join_over f a ++ join_over f b
  unfolding join_over
  join-append f [] b = refl
  join-append f (x ∷ a) b = ap (λ (l : List ℕ). f x ++ l) (join-append f a b) ∙ sym (append_assoc (f x) (join_over f a) (join_over f b))

  pub sum-append : (f : A → ℕ) (a b : List A) → sum_over f (a ++ b) ≡ sum_over f a + sum_over f b
  unfolding sum_over
  sum-append f [] b = omega arith
  sum-append f (x ∷ a) b = omega (arith, sum-append f a b)

  pub every_append : (p : A → Bool) (a b : List A) → every p a ≡ true → every p b ≡ true → every p (a ++ b) ≡ true
  unfolding every
  every_append p [] b e g = g
  every_append p (x ∷ a) b e g = both (p x) (every p (a ++ b)) (and_left (p x) (every p a) e) (every_append p a b (and_right (p x) (every p a) e) g)

  pub every-left : (p : A → Bool) (a b : List A) → every p (a ++ b) ≡ true → every p a ≡ true
  unfolding every
  every-left p [] b e = refl
  every-left p (x ∷ a) b e = both (p x) (every p a) (and_left (p x) (every p (a ++ b)) e) (every-left p a b (and_right (p x) (every p (a ++ b)) e))

  pub every-right : (p : A → Bool) (a b : List A) → every p (a ++ b) ≡ true → every p b ≡ true
  unfolding every
  every-right p [] b e = e
  every-right p (x ∷ a) b e = every-right p a b (and_right (p x) (every p (a ++ b)) e)

  -- ── one element, and one more ──

  pub join-none : (f : A → List ℕ) → join_over f [] ≡ []
  unfolding join_over
  join-none f = refl

  pub sum-none : (f : A → ℕ) → sum_over f [] ≡ 0
  unfolding sum_over
  sum-none f = refl

  pub every-none : (p : A → Bool) → every p [] ≡ true
  unfolding every
  every-none p = refl

  pub join-cons : (f : A → List ℕ) (x : A) (a : List A) → join_over f (x ∷ a) ≡ f x ++ join_over f a
  unfolding join_over
  join-cons f x a = refl

  pub sum-cons : (f : A → ℕ) (x : A) (a : List A) → sum_over f (x ∷ a) ≡ f x + sum_over f a
  unfolding sum_over
  sum-cons f x a = refl

  pub every-head : (p : A → Bool) (x : A) (a : List A) → every p (x ∷ a) ≡ true → p x ≡ true
  unfolding every
  every-head p x a e = and_left (p x) (every p a) e

  pub every-tail : (p : A → Bool) (x : A) (a : List A) → every p (x ∷ a) ≡ true → every p a ≡ true
  unfolding every
  every-tail p x a e = and_right (p x) (every p a) e

  pub every-cons : (p : A → Bool) (x : A) (a : List A) → p x ≡ true → every p a ≡ true → every p (x ∷ a) ≡ true
  unfolding every
  every-cons p x a e g = both (p x) (every p a) e g

  pub join_more : (f : A → List ℕ) (a : List A) (x : A) → join_over f (a ++ (x ∷ [])) ≡ join_over f a ++ f x
  join_more f a x = join-append f a (x ∷ []) ∙ ap (λ (l : List ℕ). join_over f a ++ l) (join-cons f x [] ∙ ap (λ (l : List ℕ). f x ++ l) (join-none f) ∙ append-nil (f x))

  pub sum_more : (f : A → ℕ) (a : List A) (x : A) → sum_over f (a ++ (x ∷ [])) ≡ sum_over f a + f x
  sum_more f a x = omega (arith, sum-append f a (x ∷ []), sum-cons f x [], sum-none f)

  pub every_more : (p : A → Bool) (a : List A) (x : A) → every p a ≡ true → p x ≡ true → every p (a ++ (x ∷ [])) ≡ true
  every_more p a x e g = every_append p a (x ∷ []) e (every-cons p x [] g (every-none p))

  -- ── at an index ──

  pub every-at : (p : A → Bool) (l : List A) (i : ℕ) (d : A) → i < length l → every p l ≡ true → p (get_or l i d) ≡ true
  every-at p [] i d h e = absurd (omega arith)
  every-at p (x ∷ l) zero d h e = every-head p x l e
  every-at p (x ∷ l) (suc i) d h e = every-at p l i d (omega arith) (every-tail p x l e)

  pub every_take : (p : A → Bool) (l : List A) (i : ℕ) → every p l ≡ true → every p (take i l) ≡ true
  every_take p l i e = every-left p (take i l) (drop i l) (ap (every p) (take-append-drop i l) ∙ e)

  pub sum-at : (f : A → ℕ) (l : List A) (i : ℕ) (d : A) → i < length l → sum_over f l ≡ sum_over f (take i l) + (f (get_or l i d) + sum_over f (drop (suc i) l))
  sum-at f l i d h =
      ap (sum_over f) (split_at l i d h)
      ∙ omega (arith, sum-append f (take i l) (get_or l i d ∷ drop (suc i) l), sum-cons f (get_or l i d) (drop (suc i) l))

  pub join-at : (f : A → List ℕ) (l : List A) (i : ℕ) (d : A) → i < length l → join_over f l ≡ join_over f (take i l) ++ (f (get_or l i d) ++ join_over f (drop (suc i) l))
  join-at f l i d h =
      ap (join_over f) (split_at l i d h)
      ∙ join-append f (take i l) (get_or l i d ∷ drop (suc i) l)
      ∙ ap (λ (x : List ℕ). join_over f (take i l) ++ x) (join-cons f (get_or l i d) (drop (suc i) l))

  -- one that is not empty makes the whole not empty
  pub join-filled : (f : A → List ℕ) (x : A) (a : List A) → 1 ≤ length (f x) → 1 ≤ length (join_over f (x ∷ a))
  join-filled f x a h = omega (arith, ap length (join-cons f x a), length-append (f x) (join_over f a))
