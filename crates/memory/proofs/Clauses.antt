-- From what the parts of the check answer to the clauses of well-formed memory, in both directions.
use mathlib.Core.Path.{◌≡◌, refl, sym, ap, ◌∙◌}
use mathlib.Core.Bool.{Bool, true, false, ◌&&◌, false≢true}
use mathlib.Core.List.{List}
use Prim.Native.Nat.{ℕ, ◌+◌, ◌<◌}
use native.Mathlib.Omega.{arith}
use lib.Dec.{eqb, leb}
use lib.ListN.{length}
use borrow.Author.Tests.{eqb-true, eq-eqb}
use Rattle.plain.proofs.Logic.{cut, and_left, and_right}
use Rattle.plain_note.specs.Note.{limit}
use Rattle.text_info.specs.declared.TextSum.{TextSum}
use Rattle.nodes.proofs.Heads.{not_so}
use Rattle.tree.specs.Tree.{sound, least_root, tells, told_right}
use Rattle.tree.proofs.Lists.{both}
use Rattle.tree.proofs.Counts.{bytes-valid}
use Rattle.tree.proofs.Sound.{valid-below}
use Rattle.tree.proofs.Within.{uses-within}
use Rattle.tree_check.proofs.Marks.{mark-le}
use Rattle.note_head.specs.Head.{n_of, root_of, height_of, free_of}
use Rattle.memory.specs.Formed.{all_below, frees, chained, note_bytes, in_tree, in_free, tree_right, slots_right, size_right, marks_right}
use Rattle.tree_check.specs.Met.{mark, Fresh, NodeFine}
use Rattle.memory.specs.Checks.{own_right, head_right, mark_right, met, Walked, Each, Sorted, Ready}
use Rattle.memory.proofs.Below.{below_at, below_all}
use Rattle.memory.proofs.Chain.{frees-past}

-- ── the slots ──

module _ (m seen later : List ℕ) (n : ℕ) (size : length seen ≡ n) (slots : n ≡ n_of m) (first : ℕ) (from : first ≡ free_of m) where
  abbrev Chained : Bool
  Chained = chained m (n_of m) (n_of m) (free_of m)

  same-chain : chained m n n first ≡ Chained
  same-chain = rw (slots, from)

  same-free : (x : ℕ) → frees m n n first x ≡ in_free m x
  same-free x = rw (slots, from)

  -- the walk stopped
  pub sorted-not : Walked m n first seen later false → Sorted m seen false
  sorted-not w c e =
      w (same-chain ∙ c) (λ x. cut x n (λ l. omega (arith, same-free x, e x (omega arith))) (λ l. omega (arith, frees-past m n n first x l, mark-le seen x)))

  -- it came to its end
  module _ (w : Walked m n first seen later true) (kept : length later ≡ n) where
    each-met : all_below n (met later) ≡ true → Each m (n_of m) seen
    each-met a x l =
        let e = eqb-true (mark later x) 1 (below_at (met later) n x a (omega arith)) in
        omega (arith, w.1 x, same-free x)

    met-each : Each m (n_of m) seen → all_below n (met later) ≡ true
    met-each e = below_all (met later) n (λ x l. eq-eqb (mark later x) 1 (omega (arith, w.1 x, same-free x, e x (omega arith))))

    sorted-by : (r : Bool) → r ≡ all_below n (met later) → Sorted m seen r
    sorted-by true e = (sym same-chain ∙ w.0, each-met (sym e))
    sorted-by false e = λ c k. false≢true (e ∙ met-each k)

    pub sorted-so : (r : Bool) → r ≡ all_below (length later) (met later) → Sorted m seen r
    sorted-so r e = sorted-by r (e ∙ ap (λ (k : ℕ). all_below k (met later)) kept)

-- ── the tree, the head and the slots ──

-- marks that are ready are unmet by what lies within
module _ (m seen : List ℕ) (ready : Ready m seen) where
  abbrev Soundly : Bool
  Soundly = sound m (least_root (height_of m)) (height_of m) (root_of m).slot

  slots-each : slots_right m ≡ true → (x : ℕ) → x < n_of m → in_tree m x + in_free m x ≡ 1
  unfolding slots_right
  slots-each e x l = eqb-true _ 1 (below_at (λ x. eqb (in_tree m x + in_free m x) 1) (n_of m) x (and_right (chained m (n_of m) (n_of m) (free_of m)) _ e) l)

  unmet : Soundly ≡ true → slots_right m ≡ true → Fresh seen (in_tree m)
  unmet s e = record {
    at = λ x.
        cut x (length seen)
        (λ l. omega (arith, ready.none x l, slots-each e x (omega (arith, ready.slots))))
        (λ l. omega (arith, mark-le seen x, uses-within m (least_root (height_of m)) (height_of m) (root_of m).slot x s (omega (arith, ready.room))));
  }

  own-tree : own_right m ≡ true → Soundly ≡ true
  unfolding own_right tree_right
  own-tree e = and_left Soundly _ (and_left (tree_right m) (slots_right m && (size_right m && marks_right m)) e)

  own-slots : own_right m ≡ true → slots_right m ≡ true
  unfolding own_right
  own-slots e = and_left (slots_right m) _ (and_right (tree_right m) (slots_right m && (size_right m && marks_right m)) e)

  pub tree-not : (Soundly ≡ true → Fresh seen (in_tree m) → ⊥) → false ≡ own_right m
  tree-not f = sym (not_so (own_right m) (λ e. f (own-tree e) (unmet (own-tree e) (own-slots e))))

  module _ (later : List ℕ) (sum : TextSum) (lf cr : Bool) (fine : NodeFine m seen later (least_root (height_of m)) (height_of m) (root_of m).slot sum lf cr) where
    told_is : tree_right m ≡ tells (root_of m).info sum
    unfolding tree_right told_right
    told_is = ap (λ (t : Bool). t && told_right m (height_of m) (root_of m)) fine.good ∙ ap (tells (root_of m).info) (sym fine.told.counts)

    size_is : size_right m ≡ leb sum.bytes (limit (length seen))
    unfolding size_right
    size_is =
        let v = valid-below m (least_root (height_of m)) (height_of m) (root_of m).slot fine.good in
        let a : length (note_bytes m) ≡ sum.bytes = sym (bytes-valid (note_bytes m) v) ∙ ap (λ (s : TextSum). s.bytes) (sym fine.told.counts) in
        ap (λ (k : ℕ). leb k (limit (n_of m))) a ∙ ap (λ (k : ℕ). leb sum.bytes (limit k)) (sym ready.slots)

    marks-is : marks_right m ≡ all_below 256 (mark_right m sum.chars)
    unfolding marks_right
    marks-is = ap (λ (s : TextSum). all_below 256 (mark_right m s.chars)) (sym fine.told.counts)

    head-is : head_right m (length seen) sum ≡ (tree_right m && (size_right m && marks_right m))
    unfolding head_right
    head-is = rw (told_is, size_is, marks-is)

    among : (a b c : Bool) → (a && c) ≡ false → (a && (b && c)) ≡ false
    among true true c e = e
    among true false c e = refl
    among false b c e = refl

    alone : (a b c : Bool) → (a && c) ≡ true → (a && (b && c)) ≡ b
    alone true true true e = refl
    alone true false true e = refl
    alone true b false e = absurd (false≢true e)
    alone false b c e = absurd (false≢true e)

    pub head-not : head_right m (length seen) sum ≡ false → false ≡ own_right m
    unfolding own_right
    head-not e = sym (among (tree_right m) (slots_right m) (size_right m && marks_right m) (sym head-is ∙ e))

    slots-so : (r : Bool) → Sorted m later r → r ≡ slots_right m
    unfolding slots_right
    slots-so true s = sym (both (chained m (n_of m) (n_of m) (free_of m)) _ s.0 (below_all (λ x. eqb (in_tree m x + in_free m x) 1) (n_of m) (λ x l. eq-eqb (in_tree m x + in_free m x) 1 (omega (arith, s.1 x l, fine.marked.at x, ready.none x (omega (arith, ready.slots)))))))
    slots-so false s = sym (not_so (slots_right m) (λ e. s (and_left (chained m (n_of m) (n_of m) (free_of m)) _ e) (λ x l. omega (arith, slots-each e x l, fine.marked.at x, ready.none x (omega (arith, ready.slots))))))

    pub own-so : head_right m (length seen) sum ≡ true → (r : Bool) → Sorted m later r → r ≡ own_right m
    unfolding own_right
    own-so e r s = slots-so r s ∙ sym (alone (tree_right m) (slots_right m) (size_right m && marks_right m) (sym head-is ∙ e))
