-- A child's text parted at a leaf, and the child's place among its siblings, give the list's text parted at that leaf.
use mathlib.Core.Path.{◌≡◌, refl, sym, ap, ◌∙◌}
use mathlib.Core.Bool.{true, false}
use mathlib.Core.List.{List, [], ◌∷◌, ◌++◌, append-nil, append_assoc}
use Prim.Native.Nat.{ℕ, suc, ◌+◌, ◌-◌, ◌≤◌}
use native.Mathlib.Omega.{arith}
use lib.Dec.{eqb}
use lib.ListN.{length}
use borrow.Author.Tests.{eqb-true}
use Rattle.plain.specs.Utf8.{valid_utf8, decode}
use Rattle.plain.proofs.Logic.{and_left, and_right}
use Rattle.plain.proofs.Utf8.{valid-append}
use Rattle.text_info.specs.Info.{zeros}
use Rattle.text_info.specs.declared.TextSum.{TextSum}
use Rattle.pool.specs.declared.Kid.{Kid}
use Rattle.child_search.specs.declared.Measure.{Measure}
use Rattle.child_search.specs.Sought.{stops_at, most_of, plus_info}
use Rattle.nodes.specs.Node.{text_of}
use Rattle.tree.specs.Tree.{bytes_below, join_over, sum_of, told_right, sound, least_at, plus_sum}
use Rattle.tree.specs.Kids.{fine}
use Rattle.tree.specs.Kids as Kids
use Rattle.tree.proofs.Counts.{sum_is, sum-nil, counts-add}
use Rattle.tree.proofs.Sound.{valid-below, filled-below}
use Rattle.tree_search.specs.Search.{count_in, PartedAt}
use Rattle.tree_search.proofs.Seams.{Whole, near-front, near-back, far-back, over-front, over-back}
use Rattle.tree_search.proofs.Among.{Kin, Chosen}
use Rattle.tree_search.proofs.Stops.{shifted, room, room-before, reached, none-counted}

-- ── the children of a sound list ──

module _ (m : List ℕ) (h : ℕ) where
  pub told-by : (k : Kid) → told_right m h k ≡ true → (s : TextSum) → plus_info s k.info ≡ plus_sum s (sum_of (decode (bytes_below m h k.slot)))
  unfolding told_right
  told-by k e s =
      let t = sum_of (decode (bytes_below m h k.slot)) in
      let i = k.info in
      let e1 = and_right (eqb i.bytes t.bytes) _ e in
      let e2 = and_right (eqb i.chars t.chars) _ e1 in
      let b = eqb-true i.bytes t.bytes (and_left (eqb i.bytes t.bytes) _ e) in
      let c = eqb-true i.chars t.chars (and_left (eqb i.chars t.chars) _ e1) in
      let u = eqb-true i.utf16_surrogates t.utf16_surrogates (and_left (eqb i.utf16_surrogates t.utf16_surrogates) _ e2) in
      let l = eqb-true i.line_breaks t.line_breaks (and_right (eqb i.utf16_surrogates t.utf16_surrogates) _ e2) in
      sum_is (plus_info s i) (plus_sum s t) (omega arith) (omega arith) (omega arith) (omega arith)

  pub kin : (k : Kid) → fine m h k ≡ true → Kin (Kids.below m h) k
  kin k e =
      let s = and_left (sound m (least_at h) h k.slot) (told_right m h k) e in
      record {
        valid = valid-below m (least_at h) h k.slot s;
        some = λ z. absurd (omega (arith, filled-below m h k.slot s, ap length z));
        told = told-by k (and_right (sound m (least_at h) h k.slot) (told_right m h k) e);
      }

-- ── one level ──

pub not-cons : (x : ℕ) (b : List ℕ) → x ∷ b ≡ [] → ⊥
not-cons x b e = absurd (let z : ◌≡◌ {A = ℕ} (suc (length b)) 0 = ap length e in omega arith)

module _ (m : List ℕ) (h : ℕ) (by : Measure) (at : ℕ) (ks : List Kid) (r : ℕ × TextSum)
    (c : Chosen (Kids.below m h) (fine m h) (kin m h) (stops_at by at) 0 [] ks r)
  where
    abbrev own : List ℕ
    own = bytes_below m h c.kid.slot

    k : Kin (Kids.below m h) c.kid
    k = kin m h c.kid c.passes

    -- what lies on the child's left is no more than the index
    pub passed-child : count_in by r.1 ≤ at
    passed-child = go c.before refl
      where
        go : (b : List ℕ) → c.before ≡ b → count_in by r.1 ≤ at
        go [] z = omega (arith, ap (count_in by) (c.counts ∙ ap (λ (l : List ℕ). sum_of (decode l)) z ∙ sum-nil) ∙ none-counted by)
        go (x ∷ b) z = reached by at r.1 (c.passed (λ q. not-cons x b (sym z ∙ q)))

    up_to : sum_of (decode (c.before ++ own)) ≡ plus_sum r.1 (sum_of (decode own))
    up_to = counts-add c.before own c.valid-before k.valid c.seam-before ∙ ap (λ (x : TextSum). plus_sum x (sum_of (decode own))) (sym c.counts)

    -- the index is one of the child's text
    pub room-child : at ≤ most_of by (sum_of (decode (join_over (Kids.below m h) ks))) → at - count_in by r.1 ≤ most_of by (sum_of (decode own))
    room-child g = go c.after refl
      where
        go : (a : List ℕ) → c.after ≡ a → at - count_in by r.1 ≤ most_of by (sum_of (decode own))
        go [] z =
            let e : join_over (Kids.below m h) ks ≡ c.before ++ own = c.whole ∙ ap (λ (l : List ℕ). c.before ++ (own ++ l)) z ∙ ap (λ (l : List ℕ). c.before ++ l) (append-nil own) in
            room at r.1 (sum_of (decode own)) by (rw (ap (λ (l : List ℕ). most_of by (sum_of (decode l))) e ∙ ap (most_of by) up_to) at g)
        go (x ∷ a) z = room-before at r.1 (sum_of (decode own)) by (ap (stops_at by at) (sym up_to) ∙ c.stopped (λ q. not-cons x a (sym z ∙ q)))

    module _ (leaf : ℕ) (left : TextSum) (before after : List ℕ) (p : PartedAt m h c.kid.slot by (at - count_in by r.1) leaf left before after) where
      abbrev text : List ℕ
      text = text_of m leaf

      front : Whole c.before own
      front = c.seam-before

      own_is : own ≡ (before ++ text) ++ after
      own_is = p.whole ∙ sym (append_assoc before text after)

      both-valid : valid_utf8 (before ++ text) ≡ true
      both-valid = (valid-append before text p.valid-before p.valid-leaf).0

      joined : join_over (Kids.below m h) ks ≡ (c.before ++ before) ++ (text ++ (after ++ c.after))
      joined = c.whole ∙ rw p.whole (simp append_assoc)

      seam-left : Whole (c.before ++ before) (text ++ (after ++ c.after))
      seam-left =
          let wide : Whole c.before (own ++ c.after) = far-back c.before own c.after k.some front in
          let e : own ++ c.after ≡ before ++ (text ++ (after ++ c.after)) = rw p.whole (simp append_assoc) in
          let f : (text ++ after) ++ c.after ≡ text ++ (after ++ c.after) = append_assoc text after c.after in
          over-front c.before before (text ++ (after ++ c.after)) (rw e at wide)
          (rw f at (over-back before (text ++ after) c.after p.seam-before (rw p.whole at c.seam-after)))

      seam-right : Whole text (after ++ c.after)
      seam-right = over-back text after c.after p.seam-after (near-front before (text ++ after) c.after (rw p.whole at c.seam-after))

      counted : plus_sum r.1 left ≡ sum_of (decode (c.before ++ before))
      counted =
          ap (λ (x : TextSum). plus_sum x left) c.counts ∙ ap (plus_sum (sum_of (decode c.before))) p.counts
          ∙ sym (counts-add c.before before c.valid-before p.valid-before (near-back c.before before (text ++ after) (rw p.whole at front)))

      goes-past : (c.before ++ before ≡ [] → ⊥) → stops_at by at (plus_sum r.1 left) ≡ false
      goes-past n = go before refl
        where
          go : (b : List ℕ) → before ≡ b → stops_at by at (plus_sum r.1 left) ≡ false
          go [] z =
              let e : left ≡ zeros = p.counts ∙ ap (λ (l : List ℕ). sum_of (decode l)) z ∙ sum-nil in
              let s : plus_sum r.1 zeros ≡ r.1 = sum_is (plus_sum r.1 zeros) r.1 (omega arith) (omega arith) (omega arith) (omega arith) in
              ap (λ (x : TextSum). stops_at by at (plus_sum r.1 x)) e ∙ ap (stops_at by at) s
              ∙ c.passed (λ q. n (ap (λ (l : List ℕ). c.before ++ l) z ∙ append-nil c.before ∙ q))
          go (x ∷ b) z = shifted at r.1 left by passed-child ∙ p.passed (λ q. not-cons x b (sym z ∙ q))

      stops-here : (after ++ c.after ≡ [] → ⊥) → stops_at by at (sum_of (decode ((c.before ++ before) ++ text))) ≡ true
      stops-here n = go after refl
        where
          move : (c.before ++ before) ++ text ≡ c.before ++ (before ++ text)
          move = append_assoc c.before before text

          go : (a : List ℕ) → after ≡ a → stops_at by at (sum_of (decode ((c.before ++ before) ++ text))) ≡ true
          go [] z =
              let e : own ≡ before ++ text = own_is ∙ ap (λ (l : List ℕ). (before ++ text) ++ l) z ∙ append-nil (before ++ text) in
              ap (λ (l : List ℕ). stops_at by at (sum_of (decode l))) (move ∙ ap (λ (l : List ℕ). c.before ++ l) (sym e))
              ∙ c.stopped (λ q. n (ap (λ (l : List ℕ). l ++ c.after) z ∙ q))
          go (x ∷ a) z =
              let near : Whole c.before (before ++ text) = near-back c.before (before ++ text) after (rw own_is at front) in
              let s : sum_of (decode ((c.before ++ before) ++ text)) ≡ plus_sum r.1 (sum_of (decode (before ++ text)))
              = ap (λ (l : List ℕ). sum_of (decode l)) move ∙ counts-add c.before (before ++ text) c.valid-before both-valid near
              ∙ ap (λ (y : TextSum). plus_sum y (sum_of (decode (before ++ text)))) (sym c.counts) in
              ap (stops_at by at) s ∙ shifted at r.1 (sum_of (decode (before ++ text))) by passed-child ∙ p.stopped (λ q. not-cons x a (sym z ∙ q))

      pub nested : (s : ℕ) → bytes_below m (suc h) s ≡ join_over (Kids.below m h) ks
          → PartedAt m (suc h) s by at leaf (plus_sum r.1 left) (c.before ++ before) (after ++ c.after)
      nested s list =
          record {
            whole = list ∙ joined;
            is_leaf = p.is_leaf;
            valid-before = (valid-append c.before before c.valid-before p.valid-before).0;
            valid-leaf = p.valid-leaf;
            valid-after = (valid-append after c.after p.valid-after c.valid-after).0;
            seam-before = seam-left;
            seam-after = seam-right;
            counts = counted;
            passed = goes-past;
            stopped = stops-here;
          }
