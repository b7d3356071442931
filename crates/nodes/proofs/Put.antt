-- A node written is read: the leaf or the list in its slot, every other slot as it was, and what two memories with the same bytes in a
-- slot have alike.
use mathlib.Core.Path.{◌≡◌, refl, ap, ◌∙◌}
use mathlib.Core.Bool.{true}
use mathlib.Core.List.{List, [], ◌∷◌, ◌++◌, append-nil}
use Prim.Native.Nat.{ℕ, suc, ◌+◌, ◌≤◌, ◌<◌}
use native.Mathlib.Omega.{arith}
use native.Mathlib.Numerals.{add-one}
use lib.ListN.{length, take, drop, get_or}
use lib.Seq.{take-take, drop-length, sets, sets-eq}
use Rattle.plain_note.specs.Note.{head_size}
use Rattle.octets.specs.Over.{overlaid}
use Rattle.pool.specs.declared.Kid.{Kid}
use Rattle.pool.specs.Slot.{slot_start, slot_of, kind_of, len_of, region_of, entries, no_kid, Fits, head_put, kid_put}
use Rattle.pool.specs.Calls.{outside}
use Rattle.pool.proofs.Kids.{entries-length}
use Rattle.octets.proofs.Over.{part-is-laid}
use Rattle.pool.proofs.Slots.{region-lies, head-same, others-stay, front-stays, behind-stays, length-stays, head-kind, head-len, head-region, head-others, head-front, head-size, head-behind, kid-entries, kid-head, kid-others, kid-front, kid-size, kid-behind}
use Rattle.node_children.specs.declared.NodeChildren.{NodeChildren}
use Rattle.node_children.specs.Kids.{kids}
use Rattle.nodes.specs.Node.{is_leaf, is_list, text_of, children_of, counts_of, lost, ill, leaf_put, kids_put, list_put, Fitting}
use Rattle.nodes.proofs.Heads.{leaf-is, list-is}

-- ── a leaf ──

module _ (m : List ℕ) (s : ℕ) (t : List ℕ) (h : slot_start s + 640 ≤ length m) (k : length t ≤ 512) where
  abbrev over : List ℕ
  over = overlaid (slot_start s + 128) t m

  over-size : length over ≡ length m
  over-size = length-stays m s 128 t h (omega arith)

  over-there : slot_start s + 640 ≤ length over
  over-there = omega (arith, over-size)

  pub leaf-size : length (leaf_put m s t) ≡ length m
  leaf-size = head-size over s 1 (length t) 0 over-there ∙ over-size

  pub leaf-len : len_of (leaf_put m s t) s ≡ length t
  leaf-len = head-len over s 1 (length t) 0 over-there (omega arith)

  -- THEOREM: the slot holds a leaf with this text
  pub leaf-put : is_leaf (leaf_put m s t) s ≡ true
  leaf-put = leaf-is (leaf_put m s t) s (omega (arith, leaf-size)) (head-kind over s 1 (length t) 0 over-there) (omega (arith, leaf-len))

  pub leaf-text : text_of (leaf_put m s t) s ≡ t
  leaf-text =
      ap (λ (n : ℕ). take n (region_of (leaf_put m s t) s)) leaf-len
      ∙ ap (take (length t)) (head-region over s 1 (length t) 0 over-there ∙ region-lies over s)
      ∙ take-take (length t) 512 (drop (slot_start s + 128) over) k
      ∙ part-is-laid (slot_start s + 128) (length t) t m (omega arith) refl

  -- THEOREM: nothing else changes
  pub leaf-others : (u : ℕ) → (u ≡ s → ⊥) → slot_of (leaf_put m s t) u ≡ slot_of m u
  leaf-others u n = head-others over s 1 (length t) 0 over-there u n ∙ others-stay m s 128 t h (omega arith) u n

  pub leaf-front : take head_size (leaf_put m s t) ≡ take head_size m
  leaf-front = head-front over s 1 (length t) 0 over-there ∙ front-stays m s 128 t h (omega arith)

  pub leaf-behind : drop (slot_start s + 640) (leaf_put m s t) ≡ drop (slot_start s + 640) m
  leaf-behind = head-behind over s 1 (length t) 0 over-there ∙ behind-stays m s 128 t h (omega arith)

-- ── entries one by one ──

module _ (s : ℕ) where
  pub kids-size : (m : List ℕ) (i : ℕ) (ks : List Kid) → slot_start s + 640 ≤ length m → i + length ks ≤ 16 → length (kids_put m s i ks) ≡ length m
  unfolding kids_put
  kids-size m i [] h l = refl
  kids-size m i (k ∷ ks) h l = kids-size (kid_put m s i k) (i + 1) ks (omega (arith, kid-size m s i k h (omega arith))) (omega arith) ∙ kid-size m s i k h (omega arith)

  -- what no entry changes
  kids-stay : {A : Type 0} (f : List ℕ → A) → ((m : List ℕ) (i : ℕ) (k : Kid) → slot_start s + 640 ≤ length m → i < 16 → f (kid_put m s i k) ≡ f m)
      → (m : List ℕ) (i : ℕ) (ks : List Kid) → slot_start s + 640 ≤ length m → i + length ks ≤ 16 → f (kids_put m s i ks) ≡ f m
  unfolding kids_put
  kids-stay f g m i [] h l = refl
  kids-stay f g m i (k ∷ ks) h l = kids-stay f g (kid_put m s i k) (i + 1) ks (omega (arith, kid-size m s i k h (omega arith))) (omega arith) ∙ g m i k h (omega arith)

  kids-entries : (m : List ℕ) (i : ℕ) (ks : List Kid) → slot_start s + 640 ≤ length m → i + length ks ≤ 16 → ((j : ℕ) → j < length ks → Fits (get_or ks j no_kid))
      → entries (region_of (kids_put m s i ks) s) ≡ sets (entries (region_of m s)) i ks
  unfolding kids_put
  kids-entries m i [] h l f = refl
  kids-entries m i (k ∷ ks) h l f =
      kids-entries (kid_put m s i k) (i + 1) ks (omega (arith, kid-size m s i k h (omega arith))) (omega arith) (λ j g. f (suc j) (omega arith))
      ∙ ap (λ (n : ℕ). sets (entries (region_of (kid_put m s i k) s)) n ks) (add-one i)
      ∙ ap (λ (es : List Kid). sets es (suc i) ks) (kid-entries m s i k h (omega arith) (f 0 (omega arith)))

-- ── a list ──

module _ (m : List ℕ) (s : ℕ) (c : NodeChildren) (h : slot_start s + 640 ≤ length m) (k : c.len ≤ 16) (e : length c.arr ≡ 16) where
  abbrev headed : List ℕ
  headed = head_put m s 2 c.len 0

  headed-there : slot_start s + 640 ≤ length headed
  headed-there = omega (arith, head-size m s 2 c.len 0 h)

  pub list-size : length (list_put m s c) ≡ length m
  list-size = kids-size s headed 0 c.arr headed-there (omega arith) ∙ head-size m s 2 c.len 0 h

  list-head : (kind_of (list_put m s c) s ≡ kind_of headed s) × (len_of (list_put m s c) s ≡ len_of headed s)
  list-head =
      let r = head-same (list_put m s c) headed s (kids-stay s (λ l. take 128 (slot_of l s)) (λ l i x g j. kid-head l s i x g j) headed 0 c.arr headed-there (omega arith)) in
      (r.0, r.1)

  pub list-len : len_of (list_put m s c) s ≡ c.len
  list-len = list-head.1 ∙ head-len m s 2 c.len 0 h (omega arith)

  -- THEOREM: the slot holds a list with these children
  pub list_put_lem : is_list (list_put m s c) s ≡ true
  list_put_lem = list-is (list_put m s c) s (omega (arith, list-size)) (list-head.0 ∙ head-kind m s 2 c.len 0 h) (omega (arith, list-len))

  pub list-entries : Fitting c.arr → entries (region_of (list_put m s c) s) ≡ c.arr
  list-entries f =
      let es = entries (region_of headed s) in
      let n : length es ≡ 16 = entries-length (region_of headed s) in
      let z : 0 + length c.arr ≡ length es = omega arith in
      kids-entries s headed 0 c.arr headed-there (omega arith) (λ j g. f.each j (omega arith))
      ∙ sets-eq c.arr es 0 (omega arith)
      ∙ ap (λ (i : ℕ). c.arr ++ drop i es) z
      ∙ ap (λ (l : List Kid). c.arr ++ l) (drop-length es)
      ∙ append-nil c.arr

  pub list-children : Fitting c.arr → children_of (list_put m s c) s ≡ kids c
  list-children f = ap (λ (n : ℕ). take n (entries (region_of (list_put m s c) s))) list-len ∙ ap (take c.len) (list-entries f)

  -- THEOREM: nothing else changes
  pub list-others : (u : ℕ) → (u ≡ s → ⊥) → slot_of (list_put m s c) u ≡ slot_of m u
  list-others u n = kids-stay s (λ l. slot_of l u) (λ l i x g j. kid-others l s i x g j u n) headed 0 c.arr headed-there (omega arith) ∙ head-others m s 2 c.len 0 h u n

  pub list-front : take head_size (list_put m s c) ≡ take head_size m
  list-front = kids-stay s (λ l. take head_size l) (λ l i x g j. kid-front l s i x g j) headed 0 c.arr headed-there (omega arith) ∙ head-front m s 2 c.len 0 h

  pub list-behind : drop (slot_start s + 640) (list_put m s c) ≡ drop (slot_start s + 640) m
  list-behind =
      kids-stay s (λ l. drop (slot_start s + 640) l) (λ l i x g j. kid-behind l s i x g j) headed 0 c.arr headed-there (omega arith) ∙ head-behind m s 2 c.len 0 h

-- ── two memories with the same bytes in a slot ──

pub record Same (l m : List ℕ) (u : ℕ) : Type 0 where
  pub out : outside l u ≡ outside m u
  pub leaf : is_leaf l u ≡ is_leaf m u
  pub list : is_list l u ≡ is_list m u
  pub len : len_of l u ≡ len_of m u
  pub text : text_of l u ≡ text_of m u
  pub children : children_of l u ≡ children_of m u
  pub counts : counts_of l u ≡ counts_of m u
  pub lost-too : lost l u ≡ lost m u
  pub ill-too : ill l u ≡ ill m u

module _ (l m : List ℕ) (u : ℕ) (e : slot_of l u ≡ slot_of m u) (n : length l ≡ length m) where
  region-same : region_of l u ≡ region_of m u
  unfolding region_of
  region-same = ap (λ (b : List ℕ). take 512 (drop 128 b)) e

  leaf-same : is_leaf l u ≡ is_leaf m u
  unfolding is_leaf
  leaf-same = rw (e, n)

  list_same : is_list l u ≡ is_list m u
  unfolding is_list
  list_same = rw (e, n)

  text_same : text_of l u ≡ text_of m u
  text_same = rw (e, region-same)

  children-same : children_of l u ≡ children_of m u
  children-same = rw (e, region-same)

  -- THEOREM: they hold the same node there
  pub same : Same l m u
  unfolding counts_of lost ill
  same = record {
    out = rw n;
    leaf = leaf-same;
    list = list_same;
    len = rw e;
    text = text_same;
    children = children-same;
    counts = rw (leaf-same, text_same, children-same);
    lost-too = rw (leaf-same, list_same, children-same);
    ill-too = rw (leaf-same, text_same);
  }
