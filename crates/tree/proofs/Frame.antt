-- What lies below a node is as it was where its own slots are: the bytes below it, the slots that it uses, and whether it is sound.
use mathlib.Core.Path.{◌≡◌, refl, ap, ◌∙◌}
use mathlib.Core.List.{List, [], ◌∷◌, map}
use Prim.Native.Nat.{ℕ, zero, suc, ◌+◌, ◌≤◌}
use native.Mathlib.Omega.{arith}
use lib.ListN.{length}
use borrow.Author.Tests.{eq-eqb}
use Rattle.plain.specs.Count.{bit}
use Rattle.pool.specs.declared.Kid.{Kid}
use Rattle.pool.specs.Slot.{slot_of}
use Rattle.nodes.specs.Node.{children_of}
use Rattle.nodes.proofs.Put.{same}
use Rattle.tree.specs.Tree.{join_over, sum_over, every, bytes_below, hit, uses, told_right, least_at, sound}
use Rattle.tree.specs.Kids.{below, fine}

pub hit-self : (s : ℕ) → hit s s ≡ 1
unfolding hit
hit-self s = ap bit (eq-eqb s s refl)

module _ (m later : List ℕ) (long : length later ≡ length m) where
  -- of one node, and of the children of a list
  pub record Kept (h s : ℕ) : Type 0 where
    pub bytes : bytes_below later h s ≡ bytes_below m h s
    pub used : (x : ℕ) → uses later h s x ≡ uses m h s x
    pub sound-too : (least : ℕ) → sound later least h s ≡ sound m least h s

  pub record KeptAll (h : ℕ) (ks : List Kid) : Type 0 where
    pub bytes : join_over (below later h) ks ≡ join_over (below m h) ks
    pub texts : map (below later h) ks ≡ map (below m h) ks
    pub used : (x : ℕ) → sum_over (λ k. uses later h k.slot x) ks ≡ sum_over (λ k. uses m h k.slot x) ks
    pub fine-too : every (fine later h) ks ≡ every (fine m h) ks

  abbrev pub Alike : (ℕ → ℕ) → Type 0
  Alike u = (x : ℕ) → 1 ≤ u x → slot_of later x ≡ slot_of m x

  fine-kept : (h : ℕ) (k : Kid) → Kept h k.slot → fine later h k ≡ fine m h k
  unfolding told_right
  fine-kept h k p = rw (p.sound-too (least_at h), p.bytes)

  all-kept : (h : ℕ) → ((s : ℕ) → Alike (uses m h s) → Kept h s) → (ks : List Kid) → Alike (λ x. sum_over (λ k. uses m h k.slot x) ks) → KeptAll h ks
  unfolding join_over sum_over every
  all-kept h ih [] a = record { bytes = refl; texts = refl; used = λ x. refl; fine-too = refl }
  all-kept h ih (k ∷ ks) a =
      let p = ih k.slot (λ x l. a x (omega arith)) in
      let r = all-kept h ih ks (λ x l. a x (omega arith)) in
      record {
        bytes = rw (p.bytes, r.bytes);
        texts = rw (p.bytes, r.texts);
        used = λ x. omega (arith, p.used x, r.used x);
        fine-too = rw (fine-kept h k p, r.fine-too);
      }

  pub kept : (h s : ℕ) → Alike (uses m h s) → Kept h s
  unfolding bytes_below uses sound
  kept zero s a =
      let e = same later m s (a s (omega (arith, hit-self s))) long in
      record { bytes = e.text; used = λ x. refl; sound-too = λ least. rw (e.leaf, e.text, e.len) }
  kept (suc h) s a =
      let e = same later m s (a s (omega (arith, hit-self s))) long in
      let r = all-kept h (kept h) (children_of m s) (λ x l. a x (omega arith)) in
      record {
        bytes = ap (join_over (below later h)) e.children ∙ r.bytes;
        used = λ x. ap (λ (ks : List Kid). hit s x + sum_over (λ k. uses later h k.slot x) ks) e.children ∙ ap (λ (n : ℕ). hit s x + n) (r.used x);
        sound-too = λ least. rw (e.list, e.children, e.len, r.fine-too, r.texts);
      }

  -- THEOREM: children whose slots are as they were
  pub kept-all : (h : ℕ) (ks : List Kid) → Alike (λ x. sum_over (λ k. uses m h k.slot x) ks) → KeptAll h ks
  kept-all h ks a = all-kept h (kept h) ks a
