-- What a sound tree gives, and what makes one sound: of a leaf, and of a list with its children. The bytes below a sound node are a text, and
-- none below a node that is not the root is empty.
use mathlib.Core.Path.{◌≡◌, refl, ap, ◌∙◌}
use mathlib.Core.Bool.{Bool, true, ◌&&◌}
use mathlib.Core.List.{List, [], ◌∷◌, map}
use Prim.Native.Nat.{ℕ, zero, suc, ◌+◌, ◌≤◌}
use native.Mathlib.Omega.{arith}
use lib.Dec.{leb}
use lib.ListN.{length}
use lib.Seq.{length-take-le}
use borrow.Author.Tests.{leb-true, le-leb}
use Rattle.plain.specs.Utf8.{valid_utf8}
use Rattle.plain.proofs.Logic.{and_left, and_right}
use Rattle.plain.proofs.Utf8.{valid-append}
use Rattle.pool.specs.declared.Kid.{Kid}
use Rattle.pool.specs.Slot.{len_of, region_of, entries}
use Rattle.pool.proofs.Kids.{entries-length}
use Rattle.nodes.specs.Node.{is_leaf, is_list, text_of, children_of}
use Rattle.nodes.proofs.Heads.{list-says}
use Rattle.nodes.proofs.Accepted.{text-length}
use Rattle.tree.specs.Tree.{join_over, sum_over, every, bytes_below, hit, uses, told_right, seamless, least_at, sound}
use Rattle.tree.specs.Kids.{below, fine}
use Rattle.tree.proofs.Lists.{both, join-none, join-cons, join-filled, every-head, every-tail}
use Rattle.tree.proofs.Counts.{valid-nil}

-- ── what lies below, one level down ──

module _ (m : List ℕ) (s : ℕ) where
  pub leaf-bytes : bytes_below m 0 s ≡ text_of m s
  unfolding bytes_below
  leaf-bytes = refl

  pub leaf-uses : (x : ℕ) → uses m 0 s x ≡ hit s x
  unfolding uses
  leaf-uses x = refl

  pub list-bytes : (h : ℕ) → bytes_below m (suc h) s ≡ join_over (below m h) (children_of m s)
  unfolding bytes_below
  list-bytes h = refl

  pub list-uses : (h x : ℕ) → uses m (suc h) s x ≡ hit s x + sum_over (λ k. uses m h k.slot x) (children_of m s)
  unfolding uses
  list-uses h x = refl

  pub children-length : is_list m s ≡ true → length (children_of m s) ≡ len_of m s
  children-length e = length-take-le (len_of m s) (entries (region_of m s)) (omega (arith, (list-says m s e).2, entries-length (region_of m s)))

-- ── a leaf ──

pub record LeafSound (m : List ℕ) (least s : ℕ) : Type 0 where
  pub leaf : is_leaf m s ≡ true
  pub size : least ≤ len_of m s
  pub valid : valid_utf8 (text_of m s) ≡ true

pub leaf-sound : (m : List ℕ) (least s : ℕ) → sound m least 0 s ≡ true → LeafSound m least s
unfolding sound
leaf-sound m least s e =
    let r = and_right (is_leaf m s) (leb least (len_of m s) && valid_utf8 (text_of m s)) e in
    record {
      leaf = and_left (is_leaf m s) (leb least (len_of m s) && valid_utf8 (text_of m s)) e;
      size = leb-true least (len_of m s) (and_left (leb least (len_of m s)) (valid_utf8 (text_of m s)) r);
      valid = and_right (leb least (len_of m s)) (valid_utf8 (text_of m s)) r;
    }

pub sound-leaf : (m : List ℕ) (least s : ℕ) → LeafSound m least s → sound m least 0 s ≡ true
unfolding sound
sound-leaf m least s l =
    both (is_leaf m s) (leb least (len_of m s) && valid_utf8 (text_of m s)) l.leaf
    (both (leb least (len_of m s)) (valid_utf8 (text_of m s)) (le-leb least (len_of m s) l.size) l.valid)

-- ── a list, whose children have height h ──

pub record ListSound (m : List ℕ) (least h s : ℕ) : Type 0 where
  pub list : is_list m s ≡ true
  pub size : least ≤ len_of m s
  pub each : every (fine m h) (children_of m s) ≡ true
  pub seams : seamless (map (below m h) (children_of m s)) ≡ true

module _ (m : List ℕ) (least h s : ℕ) where
  tail : Bool
  tail = every (fine m h) (children_of m s) && seamless (map (below m h) (children_of m s))

  pub list-sound : sound m least (suc h) s ≡ true → ListSound m least h s
  unfolding sound tail
  list-sound e =
      let r = and_right (is_list m s) (leb least (len_of m s) && tail) e in
      let q = and_right (leb least (len_of m s)) tail r in
      record {
        list = and_left (is_list m s) (leb least (len_of m s) && tail) e;
        size = leb-true least (len_of m s) (and_left (leb least (len_of m s)) tail r);
        each = and_left (every (fine m h) (children_of m s)) (seamless (map (below m h) (children_of m s))) q;
        seams = and_right (every (fine m h) (children_of m s)) (seamless (map (below m h) (children_of m s))) q;
      }

  pub sound-list : ListSound m least h s → sound m least (suc h) s ≡ true
  unfolding sound tail
  sound-list l =
      both (is_list m s) (leb least (len_of m s) && tail) l.list
      (both (leb least (len_of m s)) tail (le-leb least (len_of m s) l.size) (both (every (fine m h) (children_of m s)) (seamless (map (below m h) (children_of m s))) l.each l.seams))

-- a child that is fine is sound
pub child-sound : (m : List ℕ) (h : ℕ) (k : Kid) → fine m h k ≡ true → sound m (least_at h) h k.slot ≡ true
child-sound m h k e = and_left (sound m (least_at h) h k.slot) (told_right m h k) e

-- ── a text ──

pub join-valid : {A : Type 0} (f : A → List ℕ) (p : A → Bool) → ((k : A) → p k ≡ true → valid_utf8 (f k) ≡ true) → (ks : List A) → every p ks ≡ true → valid_utf8 (join_over f ks) ≡ true
join-valid f p v [] e = ap valid_utf8 (join-none f) ∙ valid-nil
join-valid f p v (k ∷ ks) e =
    ap valid_utf8 (join-cons f k ks) ∙ (valid-append (f k) (join_over f ks) (v k (every-head p k ks e)) (join-valid f p v ks (every-tail p k ks e))).0

-- THEOREM: the bytes below a sound node are well-formed UTF-8
pub valid-below : (m : List ℕ) (least h s : ℕ) → sound m least h s ≡ true → valid_utf8 (bytes_below m h s) ≡ true
valid-below m least zero s e = ap valid_utf8 (leaf-bytes m s) ∙ (leaf-sound m least s e).valid
valid-below m least (suc h) s e =
    ap valid_utf8 (list-bytes m s h)
    ∙ join-valid (below m h) (fine m h) (λ k f. valid-below m (least_at h) h k.slot (child-sound m h k f)) (children_of m s) (list-sound m least h s e).each

-- ── not empty ──

first-filled : {A : Type 0} (f : A → List ℕ) (p : A → Bool) → ((k : A) → p k ≡ true → 1 ≤ length (f k)) → (ks : List A) → every p ks ≡ true → 1 ≤ length ks → 1 ≤ length (join_over f ks)
first-filled f p v [] e h = absurd (omega arith)
first-filled f p v (k ∷ ks) e h = join-filled f k ks (v k (every-head p k ks e))

-- THEOREM: no node but the root is empty
pub filled-below : (m : List ℕ) (h s : ℕ) → sound m (least_at h) h s ≡ true → 1 ≤ length (bytes_below m h s)
unfolding least_at
filled-below m zero s e =
    let l = leaf-sound m 128 s e in
    omega (arith, ap length (leaf-bytes m s), text-length m s l.leaf, l.size)
filled-below m (suc h) s e =
    let l = list-sound m 4 h s e in
    let r = first-filled (below m h) (fine m h) (λ k f. filled-below m h k.slot (child-sound m h k f)) (children_of m s) l.each (omega (arith, children-length m s l.list, l.size)) in
    omega (arith, ap length (list-bytes m s h), r)
