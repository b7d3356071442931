-- What a step at one node shows: the slot's shape, a leaf, and a list with its children.
use Rattle.std.specs.Prelude.{Option, Some, None}
use mathlib.Core.Path.{◌≡◌, sym, ap, subst, ◌∙◌}
use mathlib.Core.Bool.{true, false, true≢false}
use mathlib.Core.List.{List, map}
use Prim.Native.Nat.{ℕ, suc, ◌+◌, ◌-◌, ◌<◌}
use native.Mathlib.Omega.{arith}
use native.Mathlib.Decide.{ℕ_discrete}
use lib.ListN.{length, get_or, set, take}
use Rattle.plain.specs.Utf8.{valid_utf8}
use Rattle.leaf_bytes.specs.Leaf.{leaf_of}
use Rattle.pool.specs.Slot.{len_of, region_of, entries}
use Rattle.nodes.specs.Node.{is_leaf, is_list, text_of, children_of}
use Rattle.tree.specs.Tree.{hit, uses, bytes_below, join_over, every, seamless, sound}
use Rattle.tree.specs.Kids.{below, fine, uses_of}
use Rattle.tree.proofs.Sound.{LeafSound, ListSound, leaf-sound, sound-leaf, list-sound, sound-list, leaf-bytes, leaf-uses, list-bytes, list-uses}
use Rattle.tree_check.specs.declared.Met.{Met}
use Rattle.tree_check.specs.declared.Shape.{Shape}
use Rattle.tree_check.specs.Met.{Told, TextMet, LeafShape, ListShape, ShapeIs, NodeMet, KidsMet, kids_to}
use Rattle.tree_check.proofs.Marks.{mark-le, marked-now}

-- a node of height 0 is a leaf, any other a list; both with their least size
pub sound-leaf-only : (m : List ℕ) (least h s : ℕ) → h ≡ 0 → sound m least h s ≡ true → LeafSound m least s
sound-leaf-only m least h s e g = leaf-sound m least s (subst (λ (k : ℕ). sound m least k s ≡ true) e g)

above : (h : ℕ) → (h ≡ 0 → ⊥) → h ≡ suc (h - 1)
above h n = omega (arith, n)

pub sound-list-only : (m : List ℕ) (least h s : ℕ) → (h ≡ 0 → ⊥) → sound m least h s ≡ true → ListSound m least (h - 1) s
sound-list-only m least h s n g = list-sound m least (h - 1) s (subst (λ (k : ℕ). sound m least k s ≡ true) (above h n) g)

-- ── no node of this height ──

module _ (m : List ℕ) (least h s : ℕ) where
  pub not-leaf : h ≡ 0 → is_leaf m s ≡ false → sound m least h s ≡ true → ⊥
  not-leaf e f g = true≢false (sym (sound-leaf-only m least h s e g).leaf ∙ f)

  pub not-list : (h ≡ 0 → ⊥) → is_list m s ≡ false → sound m least h s ≡ true → ⊥
  not-list n f g = true≢false (sym (sound-list-only m least h s n g).list ∙ f)

  pub no_node : is_leaf m s ≡ false → is_list m s ≡ false → sound m least h s ≡ true → ⊥
  no_node f g = elim (ℕ_discrete h 0) [ yes e ↦ not-leaf e f | no n ↦ not-list n g ]

  pub too_small : (n : ℕ) → len_of m s ≡ n → n < least → sound m least h s ≡ true → ⊥
  too_small n e l g = elim (ℕ_discrete h 0) [ yes z ↦ omega (arith, (sound-leaf-only m least h s z g).size) | no z ↦ omega (arith, (sound-list-only m least h s z g).size) ]

-- ── a leaf ──

module _ (m seen : List ℕ) (least h s n : ℕ) (l : s < length seen) (z : get_or seen s 0 ≡ 0) where
  pub leaf-met : LeafShape m least h s n → (r : Option Met) → TextMet (leaf_of (region_of m s) n) r → NodeMet m seen (set seen s 1) least h s r
  leaf-met w (Some q) f =
      let t : leaf_of (region_of m s) n ≡ text_of m s = ap (leaf_of (region_of m s)) (sym w.len) in
      let b : leaf_of (region_of m s) n ≡ bytes_below m h s = t ∙ sym (leaf-bytes m s) ∙ ap (λ (k : ℕ). bytes_below m k s) (sym w.height) in
      let u : (x : ℕ) → uses m h s x ≡ hit s x = λ x. ap (λ (k : ℕ). uses m k s x) w.height ∙ leaf-uses m s x in
      record {
        good = ap (λ (k : ℕ). sound m least k s) w.height
            ∙ sound-leaf m least s (record { leaf = w.leaf; size = omega (arith, w.size, w.len); valid = ap valid_utf8 (sym t) ∙ f.valid });
        fresh = record { at = λ x. omega (arith, u x, (marked-now seen s l z).at x, mark-le (set seen s 1) x) };
        told = subst (λ (x : List ℕ). Told x q.sum q.lf q.cr) b f.told;
        marked = record { at = λ x. omega (arith, u x, (marked-now seen s l z).at x) };
      }
  leaf-met w None f = λ g _.
      let t : leaf_of (region_of m s) n ≡ text_of m s = ap (leaf_of (region_of m s)) (sym w.len) in
      f (ap valid_utf8 t ∙ (sound-leaf-only m least h s w.height g).valid)

  -- ── a list ──

  pub list-met : (later : List ℕ) → ListShape m least h s n → (r : Option Met) → KidsMet m (set seen s 1) later (h - 1) (kids_to m s n) r → NodeMet m seen later least h s r
  list-met later w (Some q) f =
      let k : kids_to m s n ≡ children_of m s = ap (λ (j : ℕ). take j (entries (region_of m s))) (sym w.len) in
      let e = above h w.height in
      let b : join_over (below m (h - 1)) (kids_to m s n) ≡ bytes_below m h s = ap (join_over (below m (h - 1))) k ∙ sym (list-bytes m s (h - 1)) ∙ ap (λ (j : ℕ). bytes_below m j s) (sym e) in
      let u : (x : ℕ) → uses m h s x ≡ hit s x + uses_of m (h - 1) (kids_to m s n) x = λ x. ap (λ (j : ℕ). uses m j s x) e ∙ list-uses m s (h - 1) x ∙ ap (λ ks. hit s x + uses_of m (h - 1) ks x) (sym k) in
      record {
        good = ap (λ (j : ℕ). sound m least j s) e
            ∙ sound-list m least (h - 1) s (record {
              list = w.list;
              size = omega (arith, w.size, w.len);
              each = ap (every (fine m (h - 1))) (sym k) ∙ f.each;
              seams = ap (λ ks. seamless (map (below m (h - 1)) ks)) (sym k) ∙ f.seams;
            });
        fresh = record { at = λ x. omega (arith, u x, (marked-now seen s l z).at x, f.fresh.at x) };
        told = subst (λ (x : List ℕ). Told x q.sum q.lf q.cr) b f.told;
        marked = record { at = λ x. omega (arith, u x, (marked-now seen s l z).at x, f.marked.at x) };
      }
  list-met later w None f = λ g fr.
      let k : kids_to m s n ≡ children_of m s = ap (λ (j : ℕ). take j (entries (region_of m s))) (sym w.len) in
      let e = above h w.height in
      let u : (x : ℕ) → uses m h s x ≡ hit s x + uses_of m (h - 1) (kids_to m s n) x = λ x. ap (λ (j : ℕ). uses m j s x) e ∙ list-uses m s (h - 1) x ∙ ap (λ ks. hit s x + uses_of m (h - 1) ks x) (sym k) in
      let a = sound-list-only m least h s w.height g in
      f (ap (every (fine m (h - 1))) k ∙ a.each) (ap (λ ks. seamless (map (below m (h - 1)) ks)) k ∙ a.seams)
      (record { at = λ x. omega (arith, u x, (marked-now seen s l z).at x, fr.at x) })

-- an answer that is known by its constructor
pub shape_is : (m : List ℕ) (least h s : ℕ) (r q : Option Shape) → r ≡ q → ShapeIs m least h s r → ShapeIs m least h s q
shape_is m least h s r q e = subst (λ (x : Option Shape). ShapeIs m least h s x) e
