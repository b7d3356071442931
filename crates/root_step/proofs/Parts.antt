-- What the law of the root is put together from: the head that an edit leaves, the sizes of a root, and lists of few children.
use mathlib.Core.Path.{◌≡◌, refl, sym, ap, ◌∙◌}
use mathlib.Core.Bool.{true}
use mathlib.Core.List.{List, [], ◌∷◌}
use Prim.Native.Nat.{ℕ, zero, suc, ◌+◌, ◌≤◌}
use native.Mathlib.Omega.{arith}
use lib.ListN.{length, take, get_or}
use lib.Seq.{get_or-take}
use Rattle.plain.proofs.Logic.{and_right}
use Rattle.pool.specs.declared.Kid.{Kid}
use Rattle.octets.specs.Big.{four_at}
use Rattle.pool.specs.Slot.{len_of, no_kid}
use Rattle.pool.proofs.Kids.{kid-same}
use Rattle.octets.proofs.Numbers.{four-part}
use Rattle.tree.specs.Tree.{uses, least_at, least_root, told_right, sound}
use Rattle.tree.specs.Kids.{fine}
use Rattle.tree.proofs.Lists.{sum-cons, sum-none}
use Rattle.tree.proofs.Sound.{leaf-sound, sound-leaf, list-sound, sound-list, child-sound}
use Rattle.note_head.specs.Head.{root_of, height_of}
use Rattle.edit_steps.specs.Became.{uses_all}

-- ── the head that an edit leaves ──

module _ (m a : List ℕ) (e : take 32 a ≡ take 32 m) where
  four-there : (l : List ℕ) (j : ℕ) → j + 4 ≤ 32 → four_at (take 32 l) j ≡ four_at l j
  four-there l j h = let z : 0 + j ≡ j = omega arith in four-part l 0 32 j h ∙ ap (four_at l) z

  pub root-same : root_of a ≡ root_of m
  unfolding root_of
  root-same = kid-same a m 8 8 (λ j l. sym (four-there a (8 + j) (omega arith)) ∙ ap (λ (x : List ℕ). four_at x (8 + j)) e ∙ four-there m (8 + j) (omega arith))

  pub height-same : height_of a ≡ height_of m
  unfolding height_of
  height-same = sym (get_or-take 32 a 28 0 (omega arith)) ∙ ap (λ (x : List ℕ). get_or x 28 0) e ∙ get_or-take 32 m 28 0 (omega arith)

-- ── sizes ──

root-least : (h : ℕ) → least_root h ≤ least_at h
unfolding least_root least_at
root-least zero = omega arith
root-least (suc h) = omega arith

pub two-least : (h : ℕ) → least_root (suc h) ≡ 2
unfolding least_root
two-least h = refl

pub none-least : least_root 0 ≡ 0
unfolding least_root
none-least = refl

-- a sound node of enough bytes or children
pub resized : (m : List ℕ) (least less h s : ℕ) → less ≤ len_of m s → sound m least h s ≡ true → sound m less h s ≡ true
resized m least less zero s l e = let r = leaf-sound m least s e in sound-leaf m less s (record { leaf = r.leaf; size = l; valid = r.valid })
resized m least less (suc h) s l e = let r = list-sound m least h s e in sound-list m less h s (record { list = r.list; size = l; each = r.each; seams = r.seams })

as-large : (m : List ℕ) (least h s : ℕ) → sound m least h s ≡ true → least ≤ len_of m s
as-large m least zero s e = (leaf-sound m least s e).size
as-large m least (suc h) s e = (list-sound m least h s e).size

-- any child may be a root
pub child-root : (m : List ℕ) (h : ℕ) (k : Kid) → fine m h k ≡ true → sound m (least_root h) h k.slot ≡ true
child-root m h k f =
    let e = child-sound m h k f in
    resized m (least_at h) (least_root h) h k.slot (omega (arith, as-large m (least_at h) h k.slot e, root-least h)) e

pub child-told : (m : List ℕ) (h : ℕ) (k : Kid) → fine m h k ≡ true → told_right m h k ≡ true
child-told m h k f = and_right (sound m (least_at h) h k.slot) (told_right m h k) f

pub one-used : (m : List ℕ) (h : ℕ) (k : Kid) (x : ℕ) → uses_all m h (k ∷ []) x ≡ uses m h k.slot x
one-used m h k x = omega (arith, sum-cons (λ (j : Kid). uses m h j.slot x) k [], sum-none (λ (j : Kid). uses m h j.slot x))

-- lists of one child and of none, and a number above both
pub one_of : (ks : List Kid) → length ks ≡ 1 → ks ≡ get_or ks 0 no_kid ∷ []
one_of [] e = absurd (omega arith)
one_of (k ∷ []) e = refl
one_of (k ∷ j ∷ ks) e = absurd (omega arith)

pub none_of : (ks : List Kid) → length ks ≡ 0 → ks ≡ []
none_of [] e = refl
none_of (k ∷ ks) e = absurd (omega arith)

pub two-or-more : (x : ℕ) → (x ≡ 0 → ⊥) → (x ≡ 1 → ⊥) → 2 ≤ x
two-or-more zero f g = absurd (f refl)
two-or-more (suc zero) f g = absurd (g refl)
two-or-more (suc (suc x)) f g = omega arith
