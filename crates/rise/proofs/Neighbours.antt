-- A list in which one child is too small: that child and the one before it may be joined, and where it is the first, it and the one behind it. So
-- `mend` is accepted.
use mathlib.Core.Path.{◌≡◌, sym, ap, subst, ◌∙◌}
use mathlib.Core.Bool.{Bool, true, ◌&&◌}
use mathlib.Core.List.{List, [], ◌∷◌, ◌++◌, append_assoc, map}
use Prim.Native.Nat.{ℕ, zero, suc, ◌+◌, ◌-◌, ◌≤◌, ◌<◌}
use native.Mathlib.Omega.{arith}
use lib.ListN.{length, take, get_or, length-append}
use lib.Seq.{append_snoc}
use Rattle.plain.specs.Count.{cr_last, lf_first}
use Rattle.plain.specs.Outcome.{Outcome.value}
use Rattle.plain.specs.Utf8.{decode}
use Rattle.text_info.specs.declared.TextInfo.{TextInfo}
use Rattle.pool.specs.declared.Kid.{Kid}
use Rattle.pool.specs.Slot.{len_of, no_kid}
use Rattle.nodes.specs.Node.{is_list, children_of}
use Rattle.nodes.proofs.Heads.{leaf-says, list-says}
use Rattle.tree.specs.Tree.{every, hit, uses, seamless, least_at, sum_of, tells, sound}
use Rattle.tree.specs.Kids.{below, fine}
use Rattle.tree.proofs.Lists.{join-none, join-cons, join_more, sum-cons, every-none, every-head, every-tail, every-cons, every-left, every-right}
use Rattle.tree.proofs.Seams.{cr-append, lf-append, seam-none, seam-at, seam-left, seam-right}
use Rattle.tree.proofs.Sound.{child-sound, leaf-sound, sound-leaf, list-sound, sound-list}
use Rattle.tree_search.proofs.Seams.{Whole, no_front, near-back, near-front, over-front}
use Rattle.merge.specs.Join.{AllFit}
use Rattle.edit_steps.specs.Made.{Made}
use Rattle.edit_steps.specs.Became.{uses_all, bytes_all, free, Slotted}
use Rattle.edit_steps.specs.Grown.{MadeIs}
use Rattle.list_step.proofs.Totals.{filled, node-there}
use Rattle.mend_step.specs.Mended.{mended}
use Rattle.mend_step.proofs.Pairs.{text-one, seam-between}
use Rattle.mend_step.proofs.Among.{made_as}
use Rattle.mend_step.proofs.Around.{two, all, uses_both, Lame}
use Rattle.mend_step.proofs.Mends.{mend-makes}
use Rattle.rise.proofs.Lists.{all_but_last, fits-less}
use Rattle.rise.proofs.Loose.{Loose, text-parts, uses-parts}

-- ── sizes ──

any-size : (m : List ℕ) (least g s : ℕ) → sound m least g s ≡ true → sound m 0 g s ≡ true
any-size m least zero s e = let l = leaf-sound m least s e in sound-leaf m 0 s (record { leaf = l.leaf; size = omega arith; valid = l.valid })
any-size m least (suc g) s e = let l = list-sound m least g s e in sound-list m 0 g s (record { list = l.list; size = omega arith; each = l.each; seams = l.seams })

-- a child, and beside it one that is too small
large : (m : List ℕ) (g s : ℕ) → sound m (least_at g) g s ≡ true → (least_at g ≤ len_of m s) × (len_of m s + least_at g ≤ 768)
unfolding least_at
large m zero s e = let l = leaf-sound m 128 s e in (l.size, omega (arith, (leaf-says m s l.leaf).2))
large m (suc g) s e = let l = list-sound m 4 g s e in (l.size, omega (arith, (list-says m s l.list).2))

-- ── the list ──

-- it has the children ks, which lie apart, and these counts
pub record Listed (m : List ℕ) (n g p : ℕ) (ks : List Kid) (info : TextInfo) : Type 0 where
  pub few : n < 4294967296
  pub slotted : Slotted m n
  pub there : p < n
  pub list : is_list m p ≡ true
  pub children : children_of m p ≡ ks
  pub fit : AllFit ks
  pub once : (z : ℕ) → hit p z + uses_all m g ks z + free m n z ≤ 1
  pub short : length (bytes_all m g ks) < 4294967296
  pub told : tells info (sum_of (decode (bytes_all m g ks))) ≡ true

-- joined at the child before i, the step is accepted
pub record Joins (m : List ℕ) (n g p i : ℕ) (ks : List Kid) (info : TextInfo) : Type 0 where
  pub made : Made
  pub later : List ℕ
  pub accepted : mended m p (i - 1) info ≡ value (made, later)
  pub is : MadeIs m later n 0 (λ z. hit p z + uses_all m g ks z) (suc g) p (bytes_all m g ks) made

-- ── two neighbours ──

module _ (m : List ℕ) (n g p : ℕ) (pre : List Kid) (x y : Kid) (post : List Kid) (info : TextInfo) where
  abbrev kin : List Kid
  kin = pre ++ (x ∷ y ∷ post)

  kin-text : bytes_all m g kin ≡ all m g pre x y post
  kin-text =
      text-parts m g pre x (y ∷ post)
      ∙ ap (λ (l : List ℕ). bytes_all m g pre ++ (below m g x ++ l)) (join-cons (below m g) y post)
      ∙ ap (λ (l : List ℕ). bytes_all m g pre ++ l) (sym (append_assoc (below m g x) (below m g y) (bytes_all m g post)))

  kin-uses : (z : ℕ) → uses_all m g kin z ≡ uses_all m g pre z + (uses_both m g x y z + uses_all m g post z)
  kin-uses z = omega (arith, uses-parts m g pre x (y ∷ post) z, sum-cons (λ (k : Kid). uses m g k.slot z) y post)

  -- what they and their siblings are
  record Near : Type 0 where
    left : sound m 0 g x.slot ≡ true
    right : sound m 0 g y.slot ≡ true
    seam : Whole (below m g x) (below m g y)
    enough : least_at g ≤ len_of m x.slot + len_of m y.slot
    most : len_of m x.slot + len_of m y.slot ≤ 768
    before : every (fine m g) pre ≡ true
    behind : every (fine m g) post ≡ true
    seams-before : seamless (map (below m g) pre) ≡ true
    seams-behind : seamless (map (below m g) post) ≡ true
    seam-left : Whole (bytes_all m g pre) (two m g x y)
    seam-right : Whole (two m g x y) (bytes_all m g post)

  module _ (c : Listed m n g p kin info) (r : Near) where
    lengths : length (below m g x) + length (below m g y) < 4294967296
    lengths =
        omega (
          arith,
          c.short,
          ap length kin-text,
          length-append (bytes_all m g pre) (two m g x y ++ bytes_all m g post),
          length-append (two m g x y) (bytes_all m g post),
          length-append (below m g x) (below m g y),
        )

    lame : Lame m n g p pre x y post info
    lame =
        record {
          pair = record {
            few = c.few;
            slotted = c.slotted;
            left_there = omega (arith, node-there m g 0 g x.slot r.left, c.slotted.long);
            right_there = omega (arith, node-there m g 0 g y.slot r.right, c.slotted.long);
            left = r.left;
            right = r.right;
            once = λ z. omega (arith, c.once z, kin-uses z);
            seam = r.seam;
            short = lengths;
            enough = r.enough;
            most = r.most;
          };
          there = c.there;
          list = c.list;
          children = c.children;
          fit = fits-less pre x y post c.fit;
          before = r.before;
          behind = r.behind;
          seams-before = r.seams-before;
          seams-behind = r.seams-behind;
          seam-left = r.seam-left;
          seam-right = r.seam-right;
          once = λ z. omega (arith, c.once z, kin-uses z);
          short = omega (arith, c.short, ap length kin-text);
          told = ap (λ (t : List ℕ). tells info (sum_of (decode t))) (sym kin-text) ∙ c.told;
        }

    joins : (i : ℕ) → length pre ≡ i - 1 → Joins m n g p i kin info
    joins i at =
        let w = mend-makes m n g p (i - 1) pre x y post info lame at in
        record {
          made = w.made;
          later = w.later;
          accepted = w.accepted;
          is = made_as m w.later n 0 (λ z. hit p z + (uses_all m g pre z + (uses_both m g x y z + uses_all m g post z))) (λ z. hit p z + uses_all m g kin z) (suc g) p (all m g pre x y post)
              (bytes_all m g kin) w.made w.is (λ z. omega (arith, kin-uses z)) (sym kin-text);
        }

-- ── the small one, and its neighbour ──

module _ (m : List ℕ) (n g p i : ℕ) (info : TextInfo) where
  -- it is the first
  first : (x y : Kid) (post : List Kid) → Loose m n g p [] x (y ∷ post) → Listed m n g p (x ∷ y ∷ post) info → 0 ≡ i → Joins m n g p i (x ∷ y ∷ post) info
  first x y post r c at =
      let f = every-head (fine m g) y post r.behind in
      let h = every-tail (fine m g) y post r.behind in
      let big = large m g y.slot (child-sound m g y f) in
      let last : Whole (below m g y) (bytes_all m g post) =
      ap (λ (t : List ℕ). cr_last t && lf_first (bytes_all m g post)) (sym (text-one (below m g) y))
      ∙ seam-between (below m g) (fine m g) (filled m g) (y ∷ []) post (every-cons (fine m g) y [] f (every-none (fine m g))) h r.seams-behind in
      joins m n g p [] x y post info c
      (record {
        left = r.good;
        right = any-size m (least_at g) g y.slot (child-sound m g y f);
        seam = near-back (below m g x) (below m g y) (bytes_all m g post) (ap (λ (t : List ℕ). cr_last (below m g x) && lf_first t) (sym (join-cons (below m g) y post)) ∙ r.seam-right);
        enough = omega (arith, big.0);
        most = omega (arith, big.1, r.size);
        before = every-none (fine m g);
        behind = h;
        seams-before = seam-none (below m g);
        seams-behind = seam-right (below m g) (fine m g) (filled m g) (y ∷ []) post r.seams-behind;
        seam-left = ap (λ (t : List ℕ). cr_last t && lf_first (two m g x y)) (join-none (below m g)) ∙ no_front (two m g x y);
        seam-right = ap (λ (b : Bool). b && lf_first (bytes_all m g post)) (cr-append (below m g x) (below m g y) (filled m g y f)) ∙ last;
      }) i (omega arith)

  -- one stands before it
  behind-one : (pre : List Kid) (y x : Kid) (post : List Kid) → Loose m n g p (pre ++ (y ∷ [])) x post → Listed m n g p (pre ++ (y ∷ x ∷ post)) info → length (pre ++ (y ∷ [])) ≡ i
      → Joins m n g p i (pre ++ (y ∷ x ∷ post)) info
  behind-one pre y x post r c at =
      let f = every-head (fine m g) y [] (every-right (fine m g) pre (y ∷ []) r.before) in
      let b = every-left (fine m g) pre (y ∷ []) r.before in
      let big = large m g y.slot (child-sound m g y f) in
      let near : Whole (below m g y) (below m g x ++ bytes_all m g post) =
      near-front (bytes_all m g pre) (below m g y) (below m g x ++ bytes_all m g post)
      (ap (λ (t : List ℕ). cr_last t && lf_first (below m g x ++ bytes_all m g post)) (sym (join_more (below m g) pre y)) ∙ r.seam-left) in
      joins m n g p pre y x post info c
      (record {
        left = any-size m (least_at g) g y.slot (child-sound m g y f);
        right = r.good;
        seam = near-back (below m g y) (below m g x) (bytes_all m g post) near;
        enough = omega (arith, big.0);
        most = omega (arith, big.1, r.size);
        before = b;
        behind = r.behind;
        seams-before = seam-left (below m g) (fine m g) (filled m g) pre (y ∷ []) r.seams-before;
        seams-behind = r.seams-behind;
        seam-left =
            ap (λ (t : Bool). cr_last (bytes_all m g pre) && t) (lf-append (below m g y) (below m g x) (filled m g y f))
            ∙ seam-at (below m g) (fine m g) (filled m g) pre y [] b r.seams-before;
        seam-right = over-front (below m g y) (below m g x) (bytes_all m g post) near r.seam-right;
      }) i (omega (arith, length-append pre (y ∷ []), at))

  -- THEOREM: the small child is joined with the one before it, the first with the one behind it
  pub neighbours : (pre : List Kid) (x : Kid) (post : List Kid) → 1 ≤ length pre + length post → Loose m n g p pre x post → Listed m n g p (pre ++ (x ∷ post)) info → length pre ≡ i
      → Joins m n g p i (pre ++ (x ∷ post)) info
  neighbours [] x [] h r c at = absurd (omega arith)
  neighbours [] x (y ∷ post) h r c at = first x y post r c at
  neighbours (z ∷ zs) x post h r c at =
      let pre = z ∷ zs in
      let front = take (length pre - 1) pre in
      let y = get_or pre (length pre - 1) no_kid in
      let e : pre ≡ front ++ (y ∷ []) = all_but_last pre (omega arith) in
      let s : pre ++ (x ∷ post) ≡ front ++ (y ∷ x ∷ post) = ap (λ (l : List Kid). l ++ (x ∷ post)) e ∙ append_snoc front y (x ∷ post) in
      subst (λ (l : List Kid). Joins m n g p i l info) (sym s)
      (behind-one front y x post (subst (λ (l : List Kid). Loose m n g p l x post) e r) (subst (λ (l : List Kid). Listed m n g p l info) s c) (sym (ap length e) ∙ at))
