-- Two neighbours that were joined, among their siblings: the children that the list should have are a family, and laid in it they are what the
-- step makes of it. No call needs it; the law of the step does.
use mathlib.Core.Path.{◌≡◌, refl, ap, ◌∙◌}
use mathlib.Core.Bool.{Bool, true, false, ◌&&◌}
use mathlib.Core.List.{List, ◌∷◌, ◌++◌, map}
use Prim.Native.Nat.{ℕ, zero, suc, ◌+◌, ◌≤◌, ◌<◌}
use native.Mathlib.Omega.{arith}
use lib.ListN.{length}
use Rattle.plain.specs.Count.{cr_last, lf_first}
use Rattle.plain.specs.Utf8.{decode}
use Rattle.plain.proofs.Logic.{cut}
use Rattle.text_info.specs.declared.TextInfo.{TextInfo}
use Rattle.pool.specs.declared.Kid.{Kid}
use Rattle.pool.specs.Slot.{len_of}
use Rattle.nodes.specs.Node.{is_list, children_of}
use Rattle.tree.specs.Tree.{every, hit, uses, seamless, sum_of, tells}
use Rattle.tree.specs.Kids.{below, fine}
use Rattle.tree.proofs.Lists.{join-filled, every-head}
use Rattle.tree.proofs.Seams.{lf-append}
use Rattle.merge.specs.Join.{AllFit}
use Rattle.edit_steps.specs.Made.{sized}
use Rattle.edit_steps.specs.Became.{uses_all, bytes_all, free, Became}
use Rattle.edit_steps.specs.Grown.{Grown, MadeIs}
use Rattle.list_step.proofs.Totals.{filled}
use Rattle.list_step.proofs.Laid.{Laid}
use Rattle.list_step.proofs.Family.{Family, laid-made}
use Rattle.mend_step.proofs.Pairs.{Pair, Merges, Shares}
use Rattle.mend_step.proofs.Among.{Amid, became-all, fine-all, seams-all, made_then, made_as}
use Rattle.mend_step.proofs.JoinedLists.{lists-merge, lists-share}
use Rattle.mend_step.proofs.JoinedLeaves.{leaves-merge, leaves-share}

-- ── joined at any height ──

pub data Joint (m : List ℕ) (n g a b : ℕ) : Type 0 where
  merges : (l : List ℕ) → Merges m n g a b l → Joint m n g a b
  shares : (l : List ℕ) → Shares m n g a b l → Joint m n g a b

-- THEOREM: two such neighbours are joined
pub joint : (m : List ℕ) (n g a b : ℕ) → Pair m n g a b → Joint m n g a b
joint m n zero a b p = cut (len_of m a + len_of m b) 513 (λ l. merges _ (leaves-merge m n a b p (omega arith))) (λ l. shares _ (leaves-share m n a b p l))
joint m n (suc h) a b p = cut (len_of m a + len_of m b) 17 (λ l. merges _ (lists-merge m n h a b p (omega arith))) (λ l. shares _ (lists-share m n h a b p l))

-- ── among siblings ──

-- the text of two neighbours, and with that of their siblings
abbrev pub two : List ℕ → ℕ → Kid → Kid → List ℕ
two m g x y = below m g x ++ below m g y

abbrev pub all : List ℕ → ℕ → List Kid → Kid → Kid → List Kid → List ℕ
all m g pre x y post = bytes_all m g pre ++ (two m g x y ++ bytes_all m g post)

abbrev pub uses_both : List ℕ → ℕ → Kid → Kid → ℕ → ℕ
uses_both m g x y z = uses m g x.slot z + uses m g y.slot z

-- the list in slot p has the children pre, x, y and post, of height g; x and y may be joined, and the others are fine
pub record Lame (m : List ℕ) (n g p : ℕ) (pre : List Kid) (x y : Kid) (post : List Kid) (info : TextInfo) : Type 0 where
  pub pair : Pair m n g x.slot y.slot
  pub there : p < n
  pub list : is_list m p ≡ true
  pub children : children_of m p ≡ pre ++ (x ∷ y ∷ post)
  pub fit : AllFit (pre ++ (x ∷ post))
  pub before : every (fine m g) pre ≡ true
  pub behind : every (fine m g) post ≡ true
  pub seams-before : seamless (map (below m g) pre) ≡ true
  pub seams-behind : seamless (map (below m g) post) ≡ true
  pub seam-left : (cr_last (bytes_all m g pre) && lf_first (two m g x y)) ≡ false
  pub seam-right : (cr_last (two m g x y) && lf_first (bytes_all m g post)) ≡ false
  pub once : (z : ℕ) → hit p z + (uses_all m g pre z + (uses_both m g x y z + uses_all m g post z)) + free m n z ≤ 1
  pub short : length (all m g pre x y post) < 4294967296
  pub told : tells info (sum_of (decode (all m g pre x y post))) ≡ true

module _ (m : List ℕ) (n g p : ℕ) (pre : List Kid) (x y : Kid) (post : List Kid) (info : TextInfo) (r : Lame m n g p pre x y post info)
    (l : List ℕ) (u : ℕ → ℕ) (k : Kid) (rest : List Kid) (w : Grown m l n 0 u g (k ∷ rest) (two m g x y)) (sub : (z : ℕ) → u z ≤ uses_both m g x y z)
    (most : length (pre ++ ((k ∷ rest) ++ post)) ≤ 16) where
  abbrev outs : List Kid
  outs = k ∷ rest

  abbrev pub ks : List Kid
  ks = pre ++ (outs ++ post)

  some-text : 1 ≤ length (two m g x y)
  some-text = omega (arith, join-filled (below l g) k rest (filled l g k (every-head (fine l g) k rest w.each)), ap length w.became.reads)

  amid : Amid m n g u pre post (two m g x y)
  amid =
      record {
        slotted = r.pair.slotted;
        apart = λ z. omega (arith, r.once z, sub z);
        before = r.before;
        behind = r.behind;
        seams-before = r.seams-before;
        seams-behind = r.seams-behind;
        seam-left = ap (λ (t : Bool). cr_last (bytes_all m g pre) && t) (lf-append (two m g x y) (bytes_all m g post) some-text) ∙ r.seam-left;
        seam-right = r.seam-right;
      }

  became-kids : Became m l n 0 (λ z. uses_all m g pre z + (u z + uses_all m g post z)) g ks (all m g pre x y post)
  became-kids = became-all m l n 0 g u pre post outs (two m g x y) amid w.became

  -- THEOREM: they are a family
  pub family : Family l n g p ks
  family =
      record {
        few = r.pair.few;
        slotted = w.became.slotted;
        there = r.there;
        most = most;
        each = fine-all m l n 0 g u pre post outs (two m g x y) amid w;
        seams = seams-all m l n 0 g u pre post outs (two m g x y) amid w;
        once = λ z. omega (arith, r.once z, sub z, became-kids.conserve z);
        small = omega (arith, r.short, ap length became-kids.reads);
      }

  abbrev pub used : ℕ → ℕ
  used z = hit p z + (uses_all m g pre z + (u z + uses_all m g post z))

  -- THEOREM: laid in the list they are what became of it
  pub laid-all : (later : List ℕ) → Laid l later p ks → MadeIs m later n 0 used (suc g) p (all m g pre x y post) (sized 4 (length ks) info)
  laid-all later d =
      let made = laid-made l later n g p ks family d info (ap (λ (t : List ℕ). tells info (sum_of (decode t))) became-kids.reads ∙ r.told) in
      made_as m later n 0 used used (suc g) p (bytes_all l g ks) (all m g pre x y post) (sized 4 (length ks) info)
      (made_then m l later n 0 0 (λ z. uses_all m g pre z + (u z + uses_all m g post z)) (hit p) g ks (all m g pre x y post) (λ z. hit p z + uses_all l g ks z) (suc g) p (bytes_all l g ks) became-kids (λ z. refl)
      (sized 4 (length ks) info) made)
      (λ z. refl) became-kids.reads
