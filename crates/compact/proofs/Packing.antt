-- All steps of the packing: the children that are left are some of the given ones, in their order; every leaf is still a leaf with
-- text, and no slot that is not a child's has changed.
use mathlib.Core.Path.{◌≡◌, refl, sym, ap, subst, ◌∙◌}
use mathlib.Core.Bool.{Bool, true, false, cond}
use mathlib.Core.List.{List, [], ◌∷◌}
use Prim.Native.Nat.{ℕ, ◌≤◌}
use native.Mathlib.Omega.{arith}
use lib.ListN.{length}
use Rattle.pool.specs.declared.Kid.{Kid}
use Rattle.pool.specs.Slot.{slot_of, len_of}
use Rattle.pool.specs.Calls.{outside}
use Rattle.node_children.specs.declared.NodeChildren.{NodeChildren}
use Rattle.node_children.specs.Kids.{kids, list_of}
use Rattle.node_children.proofs.Lists.{is-kids, clean-length}
use Rattle.nodes.specs.Node.{is_list, text_of, children_of}
use Rattle.child_info.specs.Kin.{slots_of, among}
use Rattle.child_info.specs.Leaves.{LeafText, AllLeaves}
use Rattle.compact.specs.Pack.{fits, packed, packed_from, packed_all, relisted, compacted_kids}
use Rattle.nodes.proofs.Heads.{not-outside, list-says}
use Rattle.child_info.proofs.Rules.{children-length}
use Rattle.compact.proofs.Packed.{Packs, packed_step, packed-stays}
use Rattle.compact.proofs.Parts.{Part, Part.none, Part.keep, Part.skip, part-all, part-of-part, part_length, part_apart, part-leaves, leaves-stay, two-leaves, slot-other}

pub record Packing (m : List ℕ) (ks : List Kid) (p : List ℕ × List Kid) : Type 0 where
  pub size : length p.0 ≡ length m
  pub others : (u : ℕ) → among u (slots_of ks) ≡ false → slot_of p.0 u ≡ slot_of m u
  pub leaves : (u : ℕ) → LeafText m u → LeafText p.0 u
  pub part : Part p.1 ks

module _ (m : List ℕ) (l r : Kid) (rs : List Kid) (a : AllLeaves m (l ∷ r ∷ rs)) where
  abbrev next : List ℕ
  next = packed m l.slot r.slot

  pub step : Packs m l.slot r.slot next
  step = packed_step m l.slot r.slot (two-leaves m (l ∷ r ∷ rs) 0 1 a (omega arith) (omega arith))

  stays : (u : ℕ) → LeafText m u → LeafText next u
  stays = packed-stays m l.slot r.slot (two-leaves m (l ∷ r ∷ rs) 0 1 a (omega arith) (omega arith))

  -- the leaves still to be packed, where all of the right one went and where not
  pub less-leaves : AllLeaves next (l ∷ rs)
  less-leaves = part-leaves next (keep (skip (part-all rs))) (leaves-stay next m (l ∷ r ∷ rs) stays a)

  pub rest-leaves : AllLeaves next (r ∷ rs)
  rest-leaves = part-leaves next (skip (part-all (r ∷ rs))) (leaves-stay next m (l ∷ r ∷ rs) stays a)

  packed-on : (js : List Kid) (p : List ℕ × List Kid) (q : List Kid) → Part js (l ∷ r ∷ rs) → Packing next js p → Part q (l ∷ r ∷ rs) → Packing m (l ∷ r ∷ rs) (p.0, q)
  packed-on js p q j x y = record {
    size = x.size ∙ step.size;
    others = λ u e. x.others u (part_apart u j e) ∙ step.others u (slot-other (l ∷ r ∷ rs) u 0 e (omega arith)) (slot-other (l ∷ r ∷ rs) u 1 e (omega arith));
    leaves = λ u t. x.leaves u (stays u t);
    part = y;
  }

  packed-by : (t : Bool) (p q : List ℕ × List Kid) → Packing next (l ∷ rs) p → Packing next (r ∷ rs) q → Packing m (l ∷ r ∷ rs) (cond t p (q.0, l ∷ q.1))
  packed-by true p q x y = packed-on (l ∷ rs) p p.1 (keep (skip (part-all rs))) x (part-of-part x.part (keep (skip (part-all rs))))
  packed-by false p q x y = packed-on (r ∷ rs) q (l ∷ q.1) (skip (part-all (r ∷ rs))) y (keep y.part)

-- THEOREM
pub packing-from : (rs : List Kid) (m : List ℕ) (l : Kid) → AllLeaves m (l ∷ rs) → Packing m (l ∷ rs) (packed_from m l rs)
unfolding packed_from
packing-from [] m l a = record { size = refl; others = λ u e. refl; leaves = λ u x. x; part = part-all (l ∷ []) }
packing-from (r ∷ rs) m l a =
    packed-by m l r rs a (fits (text_of m l.slot) (text_of m r.slot)) _ _
    (packing-from rs (packed m l.slot r.slot) l (less-leaves m l r rs a)) (packing-from rs (packed m l.slot r.slot) r (rest-leaves m l r rs a))

pub packing : (m : List ℕ) (ks : List Kid) → AllLeaves m ks → Packing m ks (packed_all m ks)
packing m [] a = record { size = refl; others = λ u e. refl; leaves = λ u x. x; part = none }
packing m (k ∷ ks) a = packing-from ks m k a

-- ── `compact_in` ──

module _ (m : List ℕ) (p : ℕ) (list : NodeChildren) (e : is_list m p ≡ true) (is : list ≡ list_of (children_of m p)) where
  pub kids-are : kids list ≡ children_of m p
  kids-are = is-kids list (children_of m p) is

  pub list-clean : list ≡ list_of (kids list)
  list-clean = is ∙ ap list_of (sym kids-are)

  pub list-len-is : list.len ≡ len_of m p
  list-len-is = sym (clean-length list list-clean) ∙ ap length kids-are ∙ children-length m p e

  pub list-few : list.len ≤ 16
  list-few = omega (arith, list-len-is, (list-says m p e).2)

  module _ (a : AllLeaves m (kids list)) (n : among p (slots_of (kids list)) ≡ false) (l : List ℕ) (rest : NodeChildren)
      (promise : (l ≡ (packed_all m (kids list)).0) × (rest ≡ list_of (packed_all m (kids list)).1)) where
    all : Packing m (kids list) (packed_all m (kids list))
    all = packing m (kids list) a

    rest-kids : kids rest ≡ (packed_all m (kids list)).1
    rest-kids = is-kids rest (packed_all m (kids list)).1 promise.1

    rest-clean : rest ≡ list_of (kids rest)
    rest-clean = promise.1 ∙ ap list_of (sym rest-kids)

    part : Part (kids rest) (kids list)
    part = subst (λ (x : List Kid). Part x (kids list)) (sym rest-kids) all.part

    same_size : length l ≡ length m
    same_size = ap length promise.0 ∙ all.size

    -- what `relist` asks for
    pub may-relist : (outside l p ≡ false) × (rest.len ≤ 16) × (rest ≡ list_of (kids rest)) × AllLeaves l (kids rest) × (among p (slots_of (kids rest)) ≡ false)
    may-relist =
        let q = packed_all m (kids list) in (
          not-outside l p (omega (arith, same_size, (list-says m p e).0)),
          omega (arith, part_length part, clean-length rest rest-clean, clean-length list list-clean, list-few),
          rest-clean,
          subst (λ (x : List ℕ). AllLeaves x (kids rest)) (sym promise.0) (part-leaves q.0 part (leaves-stay q.0 m (kids list) all.leaves a)),
          part_apart p part n,
        )

    -- and what it leaves
    pub relisted-is : (z : List ℕ) → z ≡ relisted p (l, kids rest) → z ≡ compacted_kids m p (children_of m p)
    relisted-is z f =
        f ∙ ap (λ (x : List ℕ). relisted p (x, kids rest)) promise.0 ∙ ap (λ (x : List Kid). relisted p ((packed_all m (kids list)).0, x)) rest-kids ∙ ap (λ (x : List Kid). relisted p (packed_all m x)) kids-are
