-- How many nodes and leaves a sound tree has: few nodes for its leaves, few leaves for its bytes, and many leaves for its height. So a note within
-- its size leaves slots free, and its tree is low.
use mathlib.Core.Path.{◌≡◌, refl, ap, ◌∙◌}
use mathlib.Core.Bool.{Bool, true}
use mathlib.Core.List.{List, [], ◌∷◌}
use Prim.Native.Nat.{ℕ, zero, suc, ◌+◌, ◌*◌, ◌^◌, ◌≤◌, ◌<◌}
use native.Mathlib.Omega.{arith}
use lib.ListN.{length, length-append}
use borrow.Author.Tests.{ne_eqb, eq-eqb}
use Rattle.plain.specs.Count.{bit}
use Rattle.plain.proofs.Logic.{cut}
use Rattle.pool.specs.declared.Kid.{Kid}
use Rattle.pool.specs.Slot.{slot_start}
use Rattle.nodes.specs.Node.{children_of}
use Rattle.nodes.proofs.Heads.{leaf-says, list-says}
use Rattle.nodes.proofs.Accepted.{text-length}
use Rattle.tree.specs.Tree.{join_over, sum_over, every, bytes_below, hit, uses, least_at, least_root, sound}
use Rattle.tree.proofs.Lists.{every-head, every-tail}
use Rattle.tree.specs.Kids.{below, fine}
use Rattle.tree.proofs.Sound.{child-sound, leaf-bytes, list-bytes, children-length, leaf-sound, ListSound, list-sound}

unfoldable pub nodes : List ℕ → ℕ → ℕ → ℕ
nodes m zero s = 1
nodes m (suc h) s = 1 + sum_over (λ k. nodes m h k.slot) (children_of m s)

unfoldable pub leaves : List ℕ → ℕ → ℕ → ℕ
leaves m zero s = 1
leaves m (suc h) s = sum_over (λ k. leaves m h k.slot) (children_of m s)

-- ── over children: what holds of each adds up ──

module _ (p : Kid → Bool) (f g : Kid → ℕ) where
  more-than : ((k : Kid) → p k ≡ true → 3 * f k + 1 ≤ 4 * g k) → (ks : List Kid) → every p ks ≡ true → 3 * sum_over f ks + length ks ≤ 4 * sum_over g ks
  unfolding sum_over
  more-than h [] e = omega arith
  more-than h (k ∷ ks) e = omega (arith, h k (every-head p k ks e), more-than h ks (every-tail p k ks e))

module _ (p : Kid → Bool) (f : Kid → ℕ) where
  four-of : (c : ℕ) → ((k : Kid) → p k ≡ true → c ≤ f k) → (ks : List Kid) → every p ks ≡ true → 4 ≤ length ks → 4 * c ≤ sum_over f ks
  unfolding sum_over every
  four-of c h (i ∷ j ∷ k ∷ l ∷ ks) e n =
      let a = every-tail p i (j ∷ k ∷ l ∷ ks) e in
      let b = every-tail p j (k ∷ l ∷ ks) a in
      let d = every-tail p k (l ∷ ks) b in
      omega (arith, h i (every-head p i (j ∷ k ∷ l ∷ ks) e), h j (every-head p j (k ∷ l ∷ ks) a), h k (every-head p k (l ∷ ks) b), h l (every-head p l ks d))
  four-of c h [] e n = absurd (omega arith)
  four-of c h (i ∷ []) e n = absurd (omega arith)
  four-of c h (i ∷ j ∷ []) e n = absurd (omega arith)
  four-of c h (i ∷ j ∷ k ∷ []) e n = absurd (omega arith)

  two-of : (c : ℕ) → ((k : Kid) → p k ≡ true → c ≤ f k) → (ks : List Kid) → every p ks ≡ true → 2 ≤ length ks → 2 * c ≤ sum_over f ks
  unfolding sum_over every
  two-of c h (i ∷ j ∷ ks) e n =
      let a = every-tail p i (j ∷ ks) e in
      omega (arith, h i (every-head p i (j ∷ ks) e), h j (every-head p j ks a))
  two-of c h [] e n = absurd (omega arith)
  two-of c h (i ∷ []) e n = absurd (omega arith)

  bytes_of : (t : Kid → List ℕ) → ((k : Kid) → p k ≡ true → 128 * f k ≤ length (t k)) → (ks : List Kid) → every p ks ≡ true → 128 * sum_over f ks ≤ length (join_over t ks)
  unfolding sum_over join_over
  bytes_of t h [] e = omega arith
  bytes_of t h (k ∷ ks) e = omega (arith, h k (every-head p k ks e), bytes_of t h ks (every-tail p k ks e), length-append (t k) (join_over t ks))

-- ── of a node that is not the root ──

pub few-nodes : (m : List ℕ) (h s : ℕ) → sound m (least_at h) h s ≡ true → 3 * nodes m h s + 1 ≤ 4 * leaves m h s
unfolding nodes leaves least_at
few-nodes m zero s e = omega arith
few-nodes m (suc h) s e =
    let l = list-sound m 4 h s e in
    let r = more-than (fine m h) (λ k. nodes m h k.slot) (λ k. leaves m h k.slot) (λ k f. few-nodes m h k.slot (child-sound m h k f)) (children_of m s) l.each in
    omega (arith, r, children-length m s l.list, l.size)

pub full-leaves : (m : List ℕ) (h s : ℕ) → sound m (least_at h) h s ≡ true → 128 * leaves m h s ≤ length (bytes_below m h s)
unfolding leaves least_at
full-leaves m zero s e =
    let l = leaf-sound m 128 s e in
    omega (arith, ap length (leaf-bytes m s), text-length m s l.leaf, l.size)
full-leaves m (suc h) s e =
    let l = list-sound m 4 h s e in
    let r = bytes_of (fine m h) (λ k. leaves m h k.slot) (below m h) (λ k f. full-leaves m h k.slot (child-sound m h k f)) (children_of m s) l.each in
    omega (arith, r, ap length (list-bytes m s h))

pub many-leaves : (m : List ℕ) (h s : ℕ) → sound m (least_at h) h s ≡ true → 4 ^ h ≤ leaves m h s
unfolding leaves least_at
many-leaves m zero s e = omega arith
many-leaves m (suc h) s e =
    let l = list-sound m 4 h s e in
    let r = four-of (fine m h) (λ k. leaves m h k.slot) (4 ^ h) (λ k f. many-leaves m h k.slot (child-sound m h k f)) (children_of m s) l.each (omega (arith, children-length m s l.list, l.size)) in
    omega (arith, r)

-- ── of a root that is a list ──

module _ (m : List ℕ) (h s : ℕ) (e : sound m (least_root (suc h)) (suc h) s ≡ true) where
  root : ListSound m 2 h s
  unfolding least_root
  root = list-sound m 2 h s e

  pub root-nodes : 3 * nodes m (suc h) s ≤ 4 * leaves m (suc h) s + 1
  unfolding nodes leaves
  root-nodes =
      let r = more-than (fine m h) (λ k. nodes m h k.slot) (λ k. leaves m h k.slot) (λ k f. few-nodes m h k.slot (child-sound m h k f)) (children_of m s) root.each in
      omega (arith, r, children-length m s root.list, root.size)

  pub root-bytes : 128 * leaves m (suc h) s ≤ length (bytes_below m (suc h) s)
  unfolding leaves
  root-bytes =
      let r = bytes_of (fine m h) (λ k. leaves m h k.slot) (below m h) (λ k f. full-leaves m h k.slot (child-sound m h k f)) (children_of m s) root.each in
      omega (arith, r, ap length (list-bytes m s h))

  pub root-leaves : 2 * 4 ^ h ≤ leaves m (suc h) s
  unfolding leaves
  root-leaves =
      two-of (fine m h) (λ k. leaves m h k.slot) (4 ^ h) (λ k f. many-leaves m h k.slot (child-sound m h k f)) (children_of m s) root.each (omega (arith, children-length m s root.list, root.size))

-- ── the slots that a tree uses are as many as its nodes, where each is one of n ──

unfoldable pub sum_below : ℕ → (ℕ → ℕ) → ℕ
sum_below zero f = 0
sum_below (suc n) f = f n + sum_below n f

pub below-add : (n : ℕ) (f g : ℕ → ℕ) → sum_below n (λ x. f x + g x) ≡ sum_below n f + sum_below n g
unfolding sum_below
below-add zero f g = omega arith
below-add (suc n) f g = omega (arith, below-add n f g)

below_none : (n : ℕ) → sum_below n (λ x. 0) ≡ 0
unfolding sum_below
below_none zero = refl
below_none (suc n) = omega (arith, below_none n)

below-over : {A : Type 0} (n : ℕ) (f : A → ℕ → ℕ) (ks : List A) → sum_below n (λ x. sum_over (λ k. f k x) ks) ≡ sum_over (λ k. sum_below n (f k)) ks
unfolding sum_over
below-over n f [] = below_none n
below-over n f (k ∷ ks) = below-add n (f k) (λ x. sum_over (λ j. f j x) ks) ∙ ap (λ (i : ℕ). sum_below n (f k) + i) (below-over n f ks)

-- a slot is met once, where it is one of n
hits-none : (n s : ℕ) → n ≤ s → sum_below n (hit s) ≡ 0
unfolding sum_below hit
hits-none zero s h = refl
hits-none (suc n) s h = omega (arith, ap bit (ne_eqb s n (λ e. absurd (omega arith))), hits-none n s (omega arith))

pub hits-once : (n s : ℕ) → s < n → sum_below n (hit s) ≡ 1
unfolding sum_below hit
hits-once zero s h = absurd (omega arith)
hits-once (suc n) s h =
    cut s n (λ l. omega (arith, ap bit (ne_eqb s n (λ e. absurd (omega arith))), hits-once n s l))
    (λ l. omega (arith, ap bit (eq-eqb s n (omega arith)), hits-none n s l))

module _ (m : List ℕ) (n : ℕ) (long : length m ≡ slot_start n) where
  each-used : (p : Kid → Bool) (f g : Kid → ℕ) → ((k : Kid) → p k ≡ true → f k ≡ g k) → (ks : List Kid) → every p ks ≡ true → sum_over f ks ≡ sum_over g ks
  unfolding sum_over
  each-used p f g h [] e = refl
  each-used p f g h (k ∷ ks) e = omega (arith, h k (every-head p k ks e), each-used p f g h ks (every-tail p k ks e))

  pub slots-used : (least h s : ℕ) → sound m least h s ≡ true → sum_below n (uses m h s) ≡ nodes m h s
  unfolding nodes uses
  slots-used least zero s e = hits-once n s (omega (arith, long, (leaf-says m s (leaf-sound m least s e).leaf).0))
  slots-used least (suc h) s e =
      let l = list-sound m least h s e in
      below-add n (hit s) (λ x. sum_over (λ k. uses m h k.slot x) (children_of m s))
      ∙ omega (
        arith,
        hits-once n s (omega (arith, long, (list-says m s l.list).0)),
        below-over n (λ (k : Kid) x. uses m h k.slot x) (children_of m s),
        each-used (fine m h) (λ k. sum_below n (uses m h k.slot)) (λ k. nodes m h k.slot) (λ k f. slots-used (least_at h) h k.slot (child-sound m h k f)) (children_of m s) l.each,
      )
