-- In a sound tree a search for an index that there is ends at a leaf, and the text parts there.
use mathlib.Core.Path.{◌≡◌, refl, sym, ap, ◌∙◌}
use mathlib.Core.Bool.{true, ◌&&◌}
use mathlib.Core.List.{List, [], ◌∷◌, ◌++◌, map, append-nil}
use Prim.Native.Nat.{ℕ, zero, suc, ◌-◌, ◌≤◌}
use native.Mathlib.Nat.{sub-zero}
use native.Mathlib.Omega.{arith}
use lib.Dec.{eqb}
use lib.ListN.{length, get_or, take, drop}
use lib.Seq.{length-take-le, split_at}
use Rattle.plain.specs.Utf8.{decode}
use Rattle.plain.specs.Count.{cr_last, lf_first}
use Rattle.plain.specs.Outcome.{Outcome, Outcome.value, past, mapped}
use Rattle.plain.proofs.Logic.{and_left}
use Rattle.plain.proofs.Utf8.{valid-append}
use Rattle.text_info.specs.Info.{zeros}
use Rattle.text_info.specs.declared.TextSum.{TextSum}
use Rattle.pool.specs.declared.Kid.{Kid}
use Rattle.pool.specs.Slot.{no_kid}
use Rattle.node_children.specs.Kids.{kids, list_of}
use Rattle.node_children.proofs.Lists.{kids-of}
use Rattle.node_children.proofs.Rules.{none-no, past-no, three-passed}
use Rattle.child_search.specs.declared.Measure.{Measure}
use Rattle.child_search.specs.Sought.{stops_at, most_of, total, sum_from, found_by, searched}
use Rattle.nodes.specs.Node.{is_list, text_of, children_of}
use Rattle.nodes.proofs.Heads.{list-says}
use Rattle.tree.specs.Tree.{bytes_below, join_over, every, seamless, sum_of, told_right, sound, least_at, least_root, plus_sum}
use Rattle.tree.specs.Kids.{fine}
use Rattle.tree.specs.Kids as Kids
use Rattle.tree.proofs.Counts.{sum-nil, valid-nil}
use Rattle.tree.proofs.Sound.{leaf-bytes, list-bytes, children-length, leaf-sound, list-sound}
use Rattle.tree_search.specs.Search.{count_in, branch_at, below, leaf_at, PartedAt}
use Rattle.tree_search.proofs.Seams.{no_front, no-back}
use Rattle.tree_search.proofs.Among.{Chosen, sums, chosen}
use Rattle.tree_search.proofs.Stops.{reached, none-counted}
use Rattle.tree_search.proofs.Nested.{kin, room-child, not-cons, nested}
use Rattle.tree_search.proofs.Rules.{told, listed}
use Rattle.tree_search.proofs.Way.{Way}

-- ── a search in a list of 1 to 16 children that finds one ──

searched-value : (ks : List Kid) (by : Measure) (at : ℕ) → 1 ≤ length ks → length ks ≤ 16 → at ≤ most_of by (sum_from zeros ks) → searched (list_of ks) by at ≡ value (found_by by at ks)
unfolding searched list_of
searched-value ks by at some few h =
    let c = list_of ks in
    let same : kids c ≡ ks = kids-of ks in
    three-passed 12 3 11 (eqb c.len 0) (past at (most_of by (total c))) (past c.len 16) (found_by by at (kids c)) (none-no c.len some)
    (past-no at (most_of by (total c)) (omega (arith, ap (λ (l : List Kid). most_of by (sum_from zeros l)) same))) (past-no c.len 16 few)
    ∙ ap (λ (l : List Kid). value (found_by by at l)) same

-- ── the law ──

-- what the search finds, the text parted there, and the way there
pub record Ends (m : List ℕ) (h s : ℕ) (by : Measure) (at : ℕ) : Type 0 where
  pub leaf : ℕ
  pub left : TextSum
  pub before : List ℕ
  pub after : List ℕ
  pub is : leaf_at m h s by at ≡ value (leaf, left)
  pub parted : PartedAt m h s by at leaf left before after
  pub way : Way m h s by at leaf before after

pub least-list : (h : ℕ) → least_root h ≤ least_at h
unfolding least_root least_at
least-list zero = omega arith
least-list (suc h) = omega arith

module _ (m : List ℕ) (by : Measure) where
  at_leaf : (s at least : ℕ) → sound m least 0 s ≡ true → Ends m 0 s by at
  unfolding leaf_at Way
  at_leaf s at least e =
      let l = leaf-sound m least s e in
      record {
        leaf = s;
        left = zeros;
        before = [];
        after = [];
        is = refl;
        parted =
            record {
              whole = leaf-bytes m s ∙ sym (append-nil (text_of m s));
              is_leaf = l.leaf;
              valid-before = valid-nil;
              valid-leaf = l.valid;
              valid-after = valid-nil;
              seam-before = no_front (text_of m s ++ []);
              seam-after = no-back (text_of m s);
              counts = sym sum-nil;
              passed = λ n. absurd (n refl);
              stopped = λ n. absurd (n refl);
            };
        way = (refl, (refl, refl));
      }

  module _ (h s at : ℕ) (list : is_list m s ≡ true) (ks : List Kid) (children : children_of m s ≡ ks) (few : length ks ≤ 16) (some : 1 ≤ length ks)
      (each : every (fine m h) ks ≡ true) (seams : seamless (map (Kids.below m h) ks) ≡ true)
      (room : at ≤ most_of by (sum_of (decode (join_over (Kids.below m h) ks))))
      (down : (t i : ℕ) → sound m (least_at h) h t ≡ true → i ≤ most_of by (sum_of (decode (bytes_below m h t))) → Ends m h t by i)
    where
      abbrev r : ℕ × TextSum
      r = found_by by at ks

      total-is : sum_from zeros ks ≡ sum_of (decode (join_over (Kids.below m h) ks))
      total-is =
          ap (λ (x : TextSum). sum_from x ks) (sym sum-nil)
          ∙ sums (Kids.below m h) (fine m h) (kin m h) [] ks valid-nil each seams (no_front (join_over (Kids.below m h) ks))

      found_at : Outcome (ℕ × TextSum) → Outcome (ℕ × (ℕ × TextSum))
      found_at o = mapped (told m s) o

      child-is : (c : Chosen (Kids.below m h) (fine m h) (kin m h) (stops_at by at) 0 [] ks r) → branch_at m s by at ≡ value (r.0, (c.kid.slot, r.1))
      unfolding found_at
      child-is c =
          let f : found_at (searched (list_of (children_of m s)) by at) ≡ found_at (value r)
          = ap (λ (l : List Kid). found_at (searched (list_of l) by at)) children ∙ ap found_at (searched-value ks by at some few (omega (arith, ap (most_of by) total-is))) in
          listed m s by at list ∙ f
          ∙ ap (λ (l : List Kid). value (r.0, ((get_or l r.0 no_kid).slot, r.1))) children
          ∙ ap (λ (k : Kid). value (r.0, (k.slot, r.1))) (ap (λ (i : ℕ). get_or ks i no_kid) (sym (sub-zero r.0)) ∙ c.is)

      found-child : Chosen (Kids.below m h) (fine m h) (kin m h) (stops_at by at) 0 [] ks r → Ends m (suc h) s by at
      unfolding leaf_at Way
      found-child c =
          let i : ℕ = at - count_in by r.1 in
          let j : ℕ = r.0 - 0 in
          let n : length (take j ks) ≡ r.0 = omega (arith, length-take-le j ks (omega (arith, c.inside))) in
          let e = down c.kid.slot i (and_left (sound m (least_at h) h c.kid.slot) (told_right m h c.kid) c.passes) (room-child m h by at ks r c room) in
          record {
            leaf = e.leaf;
            left = plus_sum r.1 e.left;
            before = c.before ++ e.before;
            after = e.after ++ c.after;
            is =
                ap (below (λ (k : ℕ) (left : TextSum). leaf_at m h k by (at - count_in by left))) (child-is c)
                ∙ ap (mapped (λ (f : ℕ × TextSum). (f.0, plus_sum r.1 f.1))) e.is;
            parted = nested m h by at ks r c e.leaf e.left e.before e.after e.parted s (list-bytes m s h ∙ ap (join_over (Kids.below m h)) children);
            way =
                record {
                  pre = take j ks;
                  kid = c.kid;
                  post = drop (suc j) ks;
                  left = r.1;
                  near = e.before;
                  far = e.after;
                  is = child-is c ∙ ap (λ (x : ℕ). value (x, (c.kid.slot, r.1))) (sym n);
                  children = children ∙ split_at ks j no_kid c.inside ∙ ap (λ (k : Kid). take j ks ++ (k ∷ drop (suc j) ks)) c.is;
                  whole = e.parted.whole;
                  seam-before = ap (λ (t : List ℕ). cr_last t && lf_first (Kids.below m h c.kid)) (sym c.before-is) ∙ c.seam-before;
                  seam-after = ap (λ (t : List ℕ). cr_last (Kids.below m h c.kid) && lf_first t) (sym c.after_is) ∙ c.seam-after;
                  before-is = ap (λ (t : List ℕ). t ++ e.before) c.before-is;
                  after_is = ap (λ (t : List ℕ). e.after ++ t) c.after_is;
                  down = e.way;
                };
          }

  first : (h at : ℕ) (ks : List Kid) → 1 ≤ length ks → every (fine m h) ks ≡ true → seamless (map (Kids.below m h) ks) ≡ true
      → Chosen (Kids.below m h) (fine m h) (kin m h) (stops_at by at) 0 [] ks (found_by by at ks)
  first h at [] some e s = absurd (omega arith)
  first h at (k ∷ ks) some e s =
      rw sum-nil at (chosen (Kids.below m h) (fine m h) (kin m h) (stops_at by at) 0 [] k ks valid-nil e s (no_front (Kids.below m h k)))

  -- THEOREM: a search for an index that there is ends at a leaf, where the text parts
  pub ends : (h s at least : ℕ) → least_root h ≤ least → sound m least h s ≡ true → at ≤ most_of by (sum_of (decode (bytes_below m h s))) → Ends m h s by at
  unfolding least_root
  ends zero s at least g e room = at_leaf s at least e
  ends (suc h) s at least g e room =
      let l = list-sound m least h s e in
      let size = children-length m s l.list in
      let some : 1 ≤ length (children_of m s) = omega (arith, l.size) in
      found-child h s at l.list (children_of m s) refl (omega (arith, (list-says m s l.list).2)) some l.each l.seams
      (rw (list-bytes m s h) at room)
      (λ t i f q. ends h t i (least_at h) (least-list h) f q)
      (first h at (children_of m s) some l.each l.seams)

  -- what lies on the leaf's left is no more than the index
  pub left-reached : (h s at leaf : ℕ) (left : TextSum) (before after : List ℕ) → PartedAt m h s by at leaf left before after → count_in by left ≤ at
  left-reached h s at leaf left [] after p = omega (arith, ap (count_in by) (p.counts ∙ sum-nil) ∙ none-counted by)
  left-reached h s at leaf left (x ∷ before) after p = reached by at left (p.passed (not-cons x before))

  -- in chars: the text in three parts
  pub chars-parted : (h s at leaf : ℕ) (left : TextSum) (before after : List ℕ) → PartedAt m h s by at leaf left before after
      → decode (bytes_below m h s) ≡ decode before ++ (decode (text_of m leaf) ++ decode after)
  chars-parted h s at leaf left before after p =
      let r = valid-append (text_of m leaf) after p.valid-leaf p.valid-after in
      ap decode p.whole ∙ (valid-append before (text_of m leaf ++ after) p.valid-before r.0).1 ∙ ap (λ (l : List ℕ). decode before ++ l) r.1
