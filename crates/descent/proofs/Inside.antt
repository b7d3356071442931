-- An edit of chars inside the leaf that a search finds: it is that of these bytes of the leaf, or nothing is done.
use mathlib.Core.Path.{◌≡◌, refl, sym, ap, ◌∙◌}
use mathlib.Core.Bool.{Bool, true, false, cond}
use mathlib.Core.List.{List}
use Prim.Native.Nat.{ℕ, zero, suc, ◌+◌, ◌-◌, ◌≤◌, ◌<◌}
use native.Mathlib.Omega.{arith}
use lib.ListN.{length}
use borrow.Author.Tests.{lt-ltb, le-ltb}
use Rattle.plain.specs.Outcome.{Outcome, Outcome.value, Outcome.refused, mapped}
use Rattle.text_info.specs.declared.TextSum.{TextSum}
use Rattle.text_info.specs.Info.{zeros}
use Rattle.child_search.specs.declared.Measure.TheVariants.{CharEnds}
use Rattle.tree.specs.Tree.{plus_sum}
use Rattle.tree_search.specs.Search.{branch_at, below, leaf_at}
use Rattle.leaf_parts.specs.Parts.{leaf_text, byte_in}
use Rattle.edit_steps.specs.Made.{Made, Made.apart}
use Rattle.edit_steps.specs.Acts.{Act, reading}
use Rattle.descent.specs.declared.Part.{Part}
use Rattle.descent.specs.declared.Part.TheVariants.{Bytes, Inside}
use Rattle.rise.specs.Rise.{risen}
use Rattle.descent.specs.Descent.{lies_inside, inside_part, risen_after, edited_at}

-- ── the bytes ──

module _ (t : List ℕ) (at k : ℕ) where
  -- no char stays before them
  pub lies-low : at ≤ k → lies_inside t at k ≡ false
  unfolding lies_inside
  lies-low h = rw (le-ltb k at h) refl

  -- none stays behind them
  pub lies-end : k < at → length t ≤ byte_in t at → lies_inside t at k ≡ false
  unfolding lies_inside
  lies-end h l = rw (lt-ltb k at h, le-ltb (byte_in t at) (length t) l) refl

  pub lies_so : k < at → byte_in t at < length t → lies_inside t at k ≡ true
  unfolding lies_inside
  lies_so h l = rw (lt-ltb k at h, lt-ltb (byte_in t at) (length t) l) refl

-- ── one level down ──

-- what a search that found a leaf did in the first list
record Down (m : List ℕ) (h s at leaf : ℕ) (left : TextSum) : Type 0 where
  child : ℕ × (ℕ × TextSum)
  inner : TextSum
  first : branch_at m s CharEnds at ≡ value child
  then : leaf_at m h child.1.0 CharEnds (at - child.1.1.chars) ≡ value (leaf, inner)
  sum : left.chars ≡ child.1.1.chars + inner.chars

module _ (m : List ℕ) (h s at leaf : ℕ) (left : TextSum) where
  abbrev further : ℕ → TextSum → Outcome (ℕ × TextSum)
  further c l = leaf_at m h c CharEnds (at - l.chars)

  in-child : (c : ℕ × (ℕ × TextSum)) → branch_at m s CharEnds at ≡ value c → (o : Outcome (ℕ × TextSum)) → further c.1.0 c.1.1 ≡ o
      → mapped {B = ℕ × TextSum} (λ r. (r.0, plus_sum c.1.1 r.1)) o ≡ value (leaf, left) → Down m h s at leaf left
  in-child c b (refused n) e z = absurd (let y : ◌≡◌ {A = ℕ} 0 1 = cc in omega arith)
  in-child c b (value r) e z =
      let both : ◌≡◌ {A = ℕ × TextSum} (r.0, plus_sum c.1.1 r.1) (leaf, left) = cc in
      record {
        child = c;
        inner = r.1;
        first = b;
        then = e ∙ ap (λ (x : ℕ). value (x, r.1)) (ap (λ (x : ℕ × TextSum). x.0) both);
        sum = sym (ap (λ (x : ℕ × TextSum). x.1.chars) both);
      }

  in_list : (o : Outcome (ℕ × (ℕ × TextSum))) → branch_at m s CharEnds at ≡ o → below further o ≡ value (leaf, left) → Down m h s at leaf left
  in_list (refused n) b z = absurd (let y : ◌≡◌ {A = ℕ} 0 1 = cc in omega arith)
  in_list (value c) b z = in-child c b (further c.1.0 c.1.1) refl z

  down : leaf_at m (suc h) s CharEnds at ≡ value (leaf, left) → Down m h s at leaf left
  unfolding leaf_at
  down e = in_list (branch_at m s CharEnds at) refl e

-- ── the law ──

module _ (m : List ℕ) (k : ℕ) (piece : List ℕ) where
  -- the edit of the bytes of the k chars before the char q of a text, if they lie inside it
  abbrev pub tried : ℕ → ℕ → ℕ → List ℕ → ℕ → Bool → Act Made
  tried h s at t q lies = cond lies (edited_at m h s CharEnds at (Bytes (byte_in t (q - k)) (byte_in t q)) piece) (value apart, m)

  module _ (h s at : ℕ) (c : ℕ × (ℕ × TextSum)) (first : branch_at m s CharEnds at ≡ value c) where
    abbrev there : Part → Act Made
    there part = edited_at m h c.1.0 CharEnds (at - c.1.1.chars) part piece

    above : (part : Part) → edited_at m (suc h) s CharEnds at part piece ≡ risen_after (there part) s c.0
    unfolding edited_at
    above part =
        ap (λ (o : Outcome (ℕ × (ℕ × TextSum))). reading m o (λ d. risen_after (edited_at m h d.1.0 CharEnds (at - d.1.1.chars) part piece) s d.0)) first

    up : (t : List ℕ) (q : ℕ) (lies : Bool) → there (Inside k) ≡ tried h c.1.0 (at - c.1.1.chars) t q lies
        → edited_at m (suc h) s CharEnds at (Inside k) piece ≡ tried (suc h) s at t q lies
    unfolding risen
    up t q true e = above (Inside k) ∙ ap (λ (a : Act Made). risen_after a s c.0) e ∙ sym (above (Bytes (byte_in t (q - k)) (byte_in t q)))
    up t q false e = above (Inside k) ∙ ap (λ (a : Act Made). risen_after a s c.0) e

  at_leaf : (s at leaf : ℕ) (left : TextSum) → leaf_at m 0 s CharEnds at ≡ value (leaf, left)
      → edited_at m 0 s CharEnds at (Inside k) piece ≡ tried 0 s at (leaf_text m leaf) (at - left.chars) (lies_inside (leaf_text m leaf) (at - left.chars) k)
  unfolding leaf_at edited_at inside_part
  at_leaf s at leaf left e =
      let both : ◌≡◌ {A = ℕ × TextSum} (s, zeros) (leaf, left) = cc in
      let place : at ≡ at - left.chars = omega (arith, ap (λ (x : ℕ × TextSum). x.1.chars) both) in
      ap (λ (x : ℕ). tried 0 s at (leaf_text m x) at (lies_inside (leaf_text m x) at k)) (ap (λ (x : ℕ × TextSum). x.0) both)
      ∙ ap (λ (x : ℕ). tried 0 s at (leaf_text m leaf) x (lies_inside (leaf_text m leaf) x k)) place

  -- THEOREM: an edit inside the leaf that a search finds is that of its bytes there, or nothing is done
  pub inside-edited : (h s at leaf : ℕ) (left : TextSum) → leaf_at m h s CharEnds at ≡ value (leaf, left)
      → edited_at m h s CharEnds at (Inside k) piece ≡ tried h s at (leaf_text m leaf) (at - left.chars) (lies_inside (leaf_text m leaf) (at - left.chars) k)
  inside-edited zero s at leaf left e = at_leaf s at leaf left e
  inside-edited (suc h) s at leaf left e =
      let d = down m h s at leaf left e in
      let place : at - d.child.1.1.chars - d.inner.chars ≡ at - left.chars = omega (arith, d.sum) in
      up h s at d.child d.first (leaf_text m leaf) (at - left.chars) (lies_inside (leaf_text m leaf) (at - left.chars) k)
      (inside-edited h d.child.1.0 (at - d.child.1.1.chars) leaf d.inner d.then
      ∙ ap (λ (x : ℕ). tried h d.child.1.0 (at - d.child.1.1.chars) (leaf_text m leaf) x (lies_inside (leaf_text m leaf) x k)) place)
