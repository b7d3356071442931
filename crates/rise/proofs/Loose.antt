-- Children of which one may be too small, and may have no text: their counts add up to those of the joined text, they may be stored in their list,
-- and stored they are as they were.
use mathlib.Core.Path.{◌≡◌, sym, ap, ◌∙◌}
use mathlib.Core.Bool.{true, false, ◌&&◌}
use mathlib.Core.List.{List, [], ◌∷◌, ◌++◌, map}
use Prim.Native.Nat.{ℕ, ◌+◌, ◌≤◌, ◌<◌}
use native.Mathlib.Omega.{arith}
use lib.ListN.{length, length-append}
use Rattle.plain.specs.Utf8.{valid_utf8, decode}
use Rattle.plain.specs.Count.{cr_last, lf_first}
use Rattle.plain.proofs.Utf8.{valid-append}
use Rattle.text_info.specs.declared.TextSum.{TextSum}
use Rattle.pool.specs.declared.Kid.{Kid}
use Rattle.pool.specs.Slot.{slot_start, len_of}
use Rattle.nodes.specs.Node.{too_wide, total_of}
use Rattle.nodes.proofs.Put.{same as node-same}
use Rattle.tree.specs.Tree.{every, hit, uses, seamless, least_at, sum_of, told_right, sound, plus_sum}
use Rattle.tree.specs.Kids.{below, fine}
use Rattle.tree.proofs.Lists.{join-append, join-cons, sum-append, sum-cons}
use Rattle.tree.proofs.Counts.{sum_is, counts-add}
use Rattle.tree.proofs.Sound.{valid-below}
use Rattle.tree.proofs.Frame.{hit-self, Kept, kept, KeptAll, kept-all}
use Rattle.tree_search.proofs.Seams.{Whole}
use Rattle.merge.specs.Join.{AllFit}
use Rattle.merge.proofs.Parts.{sums-add}
use Rattle.edit_steps.specs.Became.{uses_all, bytes_all, free, Slotted}
use Rattle.list_step.proofs.Totals.{not_wide, all_valid, total-is, one-total, node-there, kid-fits, all_fit}
use Rattle.list_step.proofs.Laid.{Laid, free-same, laid-became}
use Rattle.mend_step.proofs.Pairs.{uses-self}
use Rattle.rise.proofs.Lists.{fits-cons, fits-append}

-- children of height g of the list in slot p: pre and post are fine, and x between them is smaller than a child should be
pub record Loose (m : List ℕ) (n g p : ℕ) (pre : List Kid) (x : Kid) (post : List Kid) : Type 0 where
  pub few : n < 4294967296
  pub slotted : Slotted m n
  pub there : p < n
  pub before : every (fine m g) pre ≡ true
  pub behind : every (fine m g) post ≡ true
  pub seams-before : seamless (map (below m g) pre) ≡ true
  pub seams-behind : seamless (map (below m g) post) ≡ true
  pub seam-left : Whole (bytes_all m g pre) (below m g x ++ bytes_all m g post)
  pub seam-right : Whole (below m g x) (bytes_all m g post)
  pub good : sound m 0 g x.slot ≡ true
  pub size : len_of m x.slot < least_at g
  pub once : (z : ℕ) → hit p z + uses_all m g (pre ++ (x ∷ post)) z + free m n z ≤ 1
  pub short : length (bytes_all m g (pre ++ (x ∷ post))) < 4294967296

module _ (m : List ℕ) (g : ℕ) (pre : List Kid) (x : Kid) (post : List Kid) where
  pub text-parts : bytes_all m g (pre ++ (x ∷ post)) ≡ bytes_all m g pre ++ (below m g x ++ bytes_all m g post)
  text-parts = join-append (below m g) pre (x ∷ post) ∙ ap (λ (l : List ℕ). bytes_all m g pre ++ l) (join-cons (below m g) x post)

  pub uses-parts : (z : ℕ) → uses_all m g (pre ++ (x ∷ post)) z ≡ uses_all m g pre z + (uses m g x.slot z + uses_all m g post z)
  uses-parts z =
      sum-append (λ (k : Kid). uses m g k.slot z) pre (x ∷ post) ∙ ap (λ (j : ℕ). uses_all m g pre z + j) (sum-cons (λ (k : Kid). uses m g k.slot z) x post)

module _ (m : List ℕ) (n g p : ℕ) (pre : List Kid) (x : Kid) (post : List Kid) (r : Loose m n g p pre x post) where
  abbrev ks : List Kid
  ks = pre ++ (x ∷ post)

  abbrev left : List ℕ
  left = bytes_all m g pre

  abbrev right : List ℕ
  right = bytes_all m g post

  -- ── their text ──

  valid : valid_utf8 (below m g x) ≡ true
  valid = valid-below m 0 g x.slot r.good

  behind-valid : valid_utf8 (below m g x ++ right) ≡ true
  behind-valid = (valid-append (below m g x) right valid (all_valid m g post r.behind)).0

  all-text : valid_utf8 (bytes_all m g ks) ≡ true
  all-text = ap valid_utf8 (text-parts m g pre x post) ∙ (valid-append left (below m g x ++ right) (all_valid m g pre r.before) behind-valid).0

  lengths : length left + (length (below m g x) + length right) < 4294967296
  lengths = omega (arith, r.short, ap length (text-parts m g pre x post), length-append left (below m g x ++ right), length-append (below m g x) right)

  -- ── their counts ──

  module _ (told : told_right m g x ≡ true) where
    -- THEOREM: the counts add up to those of the text
    pub loose-total : total_of ks ≡ sum_of (decode (bytes_all m g ks))
    loose-total =
        let a = sums-add pre (x ∷ post) in
        let b = sums-add (x ∷ []) post in
        let whole : sum_of (decode (bytes_all m g ks)) ≡ plus_sum (total_of pre) (plus_sum (total_of (x ∷ [])) (total_of post)) =
        ap (λ (l : List ℕ). sum_of (decode l)) (text-parts m g pre x post)
        ∙ counts-add left (below m g x ++ right) (all_valid m g pre r.before) behind-valid r.seam-left
        ∙ ap (plus_sum (sum_of (decode left))) (counts-add (below m g x) right valid (all_valid m g post r.behind) r.seam-right)
        ∙ ap (λ (s : TextSum). plus_sum s (plus_sum (sum_of (decode (below m g x))) (sum_of (decode right)))) (sym (total-is m g pre r.before r.seams-before))
        ∙ ap (λ (s : TextSum). plus_sum (total_of pre) (plus_sum s (sum_of (decode right)))) (sym (one-total m g x told))
        ∙ ap (λ (s : TextSum). plus_sum (total_of pre) (plus_sum (total_of (x ∷ [])) s)) (sym (total-is m g post r.behind r.seams-behind)) in
        sum_is (total_of ks) (plus_sum (total_of pre) (plus_sum (total_of (x ∷ [])) (total_of post)))
        (omega (arith, a.bytes, b.bytes)) (omega (arith, a.chars, b.chars)) (omega (arith, a.surrogates, b.surrogates)) (omega (arith, a.breaks, b.breaks))
        ∙ sym whole

    pub loose-narrow : too_wide (total_of ks) ≡ false
    loose-narrow = ap too_wide loose-total ∙ not_wide (bytes_all m g ks) all-text r.short

    -- THEOREM: they may be stored
    pub loose-fit : AllFit ks
    loose-fit =
        let far : length m < slot_start 4294967296 + 640 = omega (arith, r.slotted.long, r.few) in
        fits-append pre (x ∷ post) (all_fit m g pre r.before (omega (arith, lengths)) far)
        (fits-cons x post (kid-fits m g x told valid (omega (arith, lengths)) (omega (arith, node-there m g 0 g x.slot r.good)))
        (all_fit m g post r.behind (omega (arith, lengths)) far))

  -- ── stored ──

  module _ (l : List ℕ) (w : Laid m l p ks) where
    apart : (z : ℕ) → hit p z + (uses_all m g pre z + (uses m g x.slot z + uses_all m g post z)) + free m n z ≤ 1
    apart z = omega (arith, r.once z, uses-parts m g pre x post z)

    off : (z : ℕ) → 1 ≤ uses_all m g pre z + (uses m g x.slot z + uses_all m g post z) → z ≡ p → ⊥
    off z h q = omega (arith, apart z, ap (hit p) q ∙ hit-self p)

    kept-pre : KeptAll m l w.long g pre
    kept-pre = kept-all m l w.long g pre (λ z h. w.others z (off z (omega arith)))

    kept-post : KeptAll m l w.long g post
    kept-post = kept-all m l w.long g post (λ z h. w.others z (off z (omega arith)))

    kept-x : Kept m l w.long g x.slot
    kept-x = kept m l w.long g x.slot (λ z h. w.others z (off z (omega arith)))

    len-stays : len_of l x.slot ≡ len_of m x.slot
    len-stays = (node-same l m x.slot (w.others x.slot (off x.slot (omega (arith, uses-self m g x.slot)))) w.long).len

    text-stays : below l g x ++ bytes_all l g post ≡ below m g x ++ right
    text-stays = ap (λ (t : List ℕ). t ++ bytes_all l g post) kept-x.bytes ∙ ap (λ (t : List ℕ). below m g x ++ t) kept-post.bytes

    pub loose-text : bytes_all l g ks ≡ bytes_all m g ks
    loose-text =
        text-parts l g pre x post
        ∙ ap (λ (t : List ℕ). t ++ (below l g x ++ bytes_all l g post)) kept-pre.bytes
        ∙ ap (λ (t : List ℕ). left ++ t) text-stays
        ∙ sym (text-parts m g pre x post)

    loose-uses : (z : ℕ) → uses_all l g ks z ≡ uses_all m g ks z
    loose-uses z = omega (arith, uses-parts l g pre x post z, uses-parts m g pre x post z, kept-pre.used z, kept-x.used z, kept-post.used z)

    -- THEOREM: they are as they were
    pub loose-laid : Loose l n g p pre x post
    loose-laid =
        record {
          few = r.few;
          slotted = (laid-became m l n g p ks r.slotted r.once w x.info).slotted;
          there = r.there;
          before = kept-pre.fine-too ∙ r.before;
          behind = kept-post.fine-too ∙ r.behind;
          seams-before = ap seamless kept-pre.texts ∙ r.seams-before;
          seams-behind = ap seamless kept-post.texts ∙ r.seams-behind;
          seam-left = ap (λ (t : List ℕ). cr_last t && lf_first (below l g x ++ bytes_all l g post)) kept-pre.bytes ∙ ap (λ (t : List ℕ). cr_last left && lf_first t) text-stays ∙ r.seam-left;
          seam-right = ap (λ (t : List ℕ). cr_last t && lf_first (bytes_all l g post)) kept-x.bytes ∙ ap (λ (t : List ℕ). cr_last (below m g x) && lf_first t) kept-post.bytes ∙ r.seam-right;
          good = kept-x.sound-too 0 ∙ r.good;
          size = omega (arith, len-stays, r.size);
          once = λ z. omega (arith, r.once z, loose-uses z, free-same m l n g p ks r.slotted r.once w z);
          short = omega (arith, r.short, ap length loose-text);
        }
