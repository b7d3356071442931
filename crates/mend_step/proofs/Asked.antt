-- Two neighbours that may be joined pass what is asked before: the call joins them. No call needs it; the law of the step does.
use Rattle.std.specs.Prelude.{Ok}
use mathlib.Core.Path.{◌≡◌, refl, sym, ap, ◌∙◌}
use mathlib.Core.Bool.{Bool, true, false, not, ◌&&◌, ◌||◌, cond}
use mathlib.Core.List.{List, [], ◌∷◌}
use Prim.Native.Nat.{ℕ, zero, suc, ◌+◌, ◌<◌}
use native.Mathlib.Omega.{arith}
use lib.Dec.{ltb}
use lib.ListN.{length, get_or}
use borrow.Author.Tests.{ne_eqb, lt-ltb}
use Rattle.plain.specs.Outcome.{Outcome.value, mapped}
use Rattle.plain.proofs.Logic.{or-none, and_none}
use Rattle.plain.proofs.Outcome.{rule-passed, one-passed}
use Rattle.pool.specs.declared.Kid.{Kid}
use Rattle.pool.specs.Slot.{len_of, no_kid}
use Rattle.node_children.specs.Kids.{kids, list_of}
use Rattle.node_children.proofs.Lists.{kids-of}
use Rattle.nodes.specs.Node.{is_list, children_of, too_wide, total_of, counts_of, lost, ill}
use Rattle.nodes.specs.Calls.{counted}
use Rattle.nodes.proofs.Heads.{leaf-no-list, list-no-leaf}
use Rattle.nodes.proofs.Accepted.{counted_is}
use Rattle.tree.specs.Tree.{bytes_below, sound}
use Rattle.tree.proofs.Sound.{leaf-sound, list-sound, list-bytes, children-length}
use Rattle.child_info.specs.Kin.{some_of, slot_in, mixed, broken, some_ill, childless, kids_in, rises, pair_at}
use Rattle.child_info.specs.Calls.{pair_rules}
use Rattle.child_info.proofs.Rules.{tested, pair-at}
use Rattle.child_info.proofs.Found.{text-counted}
use Rattle.merge.specs.Join.{joined, Joined}
use Rattle.merge.specs.Merge.{settled_memory, settled, merged, merging}
use Rattle.merge.proofs.Joins.{joined-done}
use Rattle.merge.proofs.Merged.{merging-done}
use Rattle.list_step.proofs.Totals.{all_valid, total-is, not_wide}

-- a node that is whole but for its size can be counted
pub sound-counted : (m : List ℕ) (g s : ℕ) → sound m 0 g s ≡ true → length (bytes_below m g s) < 4294967296 → counted m s ≡ value (counts_of m s)
unfolding lost ill
sound-counted m zero s e h = let l = leaf-sound m 0 s e in text-counted m s (record { leaf = l.leaf; text = l.valid })
sound-counted m (suc g) s e h =
    let l = list-sound m 0 g s e in
    let no = list-no-leaf m s l.list in
    let narrow : too_wide (total_of (children_of m s)) ≡ false =
    ap too_wide (total-is m g (children_of m s) l.each l.seams)
    ∙ not_wide _ (all_valid m g (children_of m s) l.each) (omega (arith, ap length (list-bytes m s g))) in
    counted_is m s (rw (l.list, no, narrow)) (rw no)

-- two nodes of one height are of one kind
pub not-mixed : (m : List ℕ) (g : ℕ) (x y : Kid) → sound m 0 g x.slot ≡ true → sound m 0 g y.slot ≡ true → mixed m (x ∷ y ∷ []) ≡ false
unfolding some_of
not-mixed m zero x y e f =
    let a = (leaf-sound m 0 x.slot e).leaf in
    let b = (leaf-sound m 0 y.slot f).leaf in
    rw (a, leaf-no-list m x.slot a, leaf-no-list m y.slot b)
not-mixed m (suc g) x y e f =
    let a = (list-sound m 0 g x.slot e).list in
    let b = (list-sound m 0 g y.slot f).list in
    rw (list-no-leaf m x.slot a, list-no-leaf m y.slot b)

module _ (m : List ℕ) (p i : ℕ) (x y : Kid) (list : is_list m p ≡ true) (at : i + 1 < len_of m p) (is_x : get_or (children_of m p) i no_kid ≡ x) (is_y : get_or (children_of m p) (i + 1) no_kid ≡ y)
    (cx : counted m x.slot ≡ value (counts_of m x.slot)) (cy : counted m y.slot ≡ value (counts_of m y.slot)) (alike : mixed m (x ∷ y ∷ []) ≡ false)
    (px : x.slot ≡ p → ⊥) (py : y.slot ≡ p → ⊥) (xy : y.slot ≡ x.slot → ⊥) where
  kids-are : kids_in m p ≡ children_of m p
  kids-are = ap (λ (b : Bool). cond b (children_of m p) []) list

  pair_is : pair_at i (i + 1) (kids_in m p) ≡ x ∷ y ∷ []
  pair_is =
      ap (pair_at i (i + 1)) kids-are
      ∙ pair-at (children_of m p) i (i + 1) (omega arith) (omega (arith, children-length m p list))
      ∙ ap (λ (k : Kid). k ∷ get_or (children_of m p) (i + 1) no_kid ∷ []) is_x
      ∙ ap (λ (k : Kid). x ∷ k ∷ []) is_y

  rising : rises i (i + 1) (kids_in m p) ≡ true
  rising =
      ap (rises i (i + 1)) kids-are
      ∙ ap (λ (b : Bool). b && ltb (i + 1) (length (children_of m p))) (lt-ltb i (i + 1) (omega arith))
      ∙ lt-ltb (i + 1) (length (children_of m p)) (omega (arith, children-length m p list))

  whole : broken m p (x ∷ y ∷ []) ≡ false
  unfolding some_of
  whole = rw (cx, cy, ne_eqb x.slot p px, ne_eqb y.slot p py, ne_eqb y.slot x.slot xy)

  no-ill : some_ill m (x ∷ y ∷ []) ≡ false
  unfolding some_of
  no-ill = rw (cx, cy)

  -- THEOREM: nothing is refused
  pub asked : tested (pair_rules m p i (i + 1)) ≡ value tt
  asked =
      let ks = pair_at i (i + 1) (kids_in m p) in
      let some : childless m p ≡ false = ap (λ (b : Bool). is_list m p && b) (ne_eqb (len_of m p) 0 (λ z. omega (arith, z))) ∙ and_none (is_list m p) in
      let one = or-none (childless m p) (mixed m ks) some (ap (mixed m) pair_is ∙ alike) in
      let two = or-none (not (is_list m p)) (broken m p ks) (ap not list) (ap (broken m p) pair_is ∙ whole) in
      let ill-none = ap (some_ill m) pair_is ∙ no-ill in
      rule-passed 12 (childless m p || mixed m ks) _ tt one
      ∙ rule-passed 2 (not (is_list m p) || broken m p ks) _ tt two
      ∙ rule-passed 3 (not (rises i (i + 1) (kids_in m p))) _ tt (ap not rising)
      ∙ one-passed 5 (some_ill m ks) tt ill-none

  -- THEOREM: where the two are joined, the call joins them
  pub merging-is : (q : Bool) (l : List ℕ) → joined m x.slot y.slot ≡ value (q, l)
      → Joined (merging m p i (i + 1)) m (Ok q) (settled_memory p (children_of m p) i (i + 1) q l)
  merging-is q l e =
      let ks = children_of m p in
      let o : merged m p ks i (i + 1) ≡ value (q, settled_memory p ks i (i + 1) q l) =
      ap (λ (k : Kid). mapped (settled p ks i (i + 1)) (joined m k.slot (slot_in ks (i + 1)))) is_x
      ∙ ap (λ (k : Kid). mapped (settled p ks i (i + 1)) (joined m x.slot k.slot)) is_y
      ∙ ap (mapped (settled p ks i (i + 1))) e in
      let k : kids (list_of ks) ≡ ks = kids-of ks in
      merging-done m p i (i + 1) (sym asked) (list_of ks) refl (Ok q) (settled_memory p ks i (i + 1) q l)
      (joined-done (merged m p (kids (list_of ks)) i (i + 1)) m (Ok q) (settled_memory p ks i (i + 1) q l) q (settled_memory p ks i (i + 1) q l)
      (ap (λ (z : List Kid). merged m p z i (i + 1)) k ∙ o) refl refl)
