-- THEOREM of `rise`: where an edit made something of a child of a sound list, the step is accepted, and what it made of the list is as good as any
-- node, or good but for its size. It spends at most one free slot.
use mathlib.Core.Path.{◌≡◌, refl, sym, ap, subst, ◌∙◌}
use mathlib.Core.Bool.{Bool, true, false, ◌&&◌, cond}
use mathlib.Core.List.{List, [], ◌∷◌, ◌++◌}
use Prim.Native.Nat.{ℕ, suc, ◌+◌, ◌-◌, ◌<◌}
use native.Mathlib.Omega.{arith}
use lib.Dec.{ltb}
use lib.ListN.{length, take, drop, get_or}
use Rattle.plain.specs.Count.{cr_last, lf_first}
use Rattle.plain.specs.Utf8.{decode}
use Rattle.plain.specs.Outcome.{Outcome, Outcome.value}
use Rattle.text_info.specs.declared.TextInfo.{TextInfo}
use Rattle.text_info.specs.declared.TextSum.{TextSum}
use Rattle.pool.specs.declared.Kid.{Kid}
use Rattle.pool.specs.Slot.{len_of, no_kid, kid_put}
use Rattle.nodes.specs.Node.{is_list, children_of, too_wide, total_of}
use Rattle.tree.specs.Tree.{hit, uses, seamless, sum_of, tells}
use Rattle.tree.specs.Kids.{below}
use Rattle.tree.proofs.Lists.{sum-cons, sum-none}
use Rattle.tree.proofs.Sound.{list-uses}
use Rattle.tree.proofs.Frame.{KeptAll}
use Rattle.merge.specs.Join.{AllFit}
use Rattle.edit_steps.specs.Made.{Made, Made.same, Made.split, Made.small, Made.apart, sized}
use Rattle.edit_steps.specs.Acts.{settled, onward}
use Rattle.edit_steps.specs.Became.{uses_all, bytes_all, Became}
use Rattle.edit_steps.specs.Grown.{kid, MadeIs}
use Rattle.edit_steps.proofs.Rules.{same_length, beside}
use Rattle.list_step.specs.Steps.{recount, one_put, two_put}
use Rattle.list_step.proofs.Totals.{tells-self}
use Rattle.list_step.proofs.Family.{counts_of}
use Rattle.list_step.proofs.Laid.{Laid, laid-became}
use Rattle.list_step.proofs.One.{one-is, one-laid}
use Rattle.list_step.proofs.Puts.{Ready, MakesOf, put-one-makes, put-pair-makes}
use Rattle.mend_step.specs.Mended.{mended}
use Rattle.mend_step.proofs.Pairs.{text-one}
use Rattle.mend_step.proofs.Among.{made_then, made_as}
use Rattle.rise.specs.Rise.{joined_small, small_put, risen}
use Rattle.rise.proofs.Lists.{spread}
use Rattle.rise.proofs.Loose.{Loose, loose-total, loose-narrow, loose-fit, loose-text, loose-laid}
use Rattle.rise.proofs.Neighbours.{Listed, Joins, neighbours}
use Rattle.rise.proofs.Rising.{Rising, Rises, children-stay, list-stays, count, once-too, short-too, ready, on, made-rises}

-- ── as good as any child, or two ──

module _ (m a : List ℕ) (n g d p i : ℕ) (pre : List Kid) (k : Kid) (post : List Kid) (t : List ℕ) (made : Made) (at : length pre ≡ i) (r : Rising m a n g d p pre k post t made)
    (more : ℕ → List Kid) (b : Became m a n d (uses m g k.slot) g (more k.slot) t) where
  abbrev outs : List Kid
  outs = more k.slot

  -- the children as the step puts them together
  put-so : take i (children_of a p) ++ (more (get_or (children_of a p) i no_kid).slot ++ drop (i + 1) (children_of a p)) ≡ pre ++ (outs ++ post)
  put-so = spread (children_of a p) pre k post i more (children-stay m a n g d p pre k post t made r outs b) at

  within : i < len_of a p
  within = omega (arith, at, count m a n g d p pre k post t made r outs b)

module _ (m a : List ℕ) (n g d p i : ℕ) (pre : List Kid) (k : Kid) (post : List Kid) (t : List ℕ) (at : length pre ≡ i) where
  same-rises : (info : TextInfo) → Rising m a n g d p pre k post t (same info) → Rises m a n g d p i pre k post t (same info)
  unfolding risen
  same-rises info r =
      let more : ℕ → List Kid = λ s. kid s info ∷ [] in
      let outs = more k.slot in
      let b = r.edited.became in
      let e = put-so m a n g d p i pre k post t (same info) at r more b in
      made-rises m a n g d p pre k post t (same info) r outs b i (one_put a p i info) refl
      (subst (MakesOf (one_put a p i info) a n g p) e
      (put-one-makes a n g p i info (within m a n g d p i pre k post t (same info) at r more b)
      (subst (Ready a n g p) (sym e) (ready m a n g d p pre k post t (same info) r outs b r.edited))))

  split-rises : (info : TextInfo) (v : ℕ) (other : TextInfo) → Rising m a n g d p pre k post t (split info v other) → Rises m a n g d p i pre k post t (split info v other)
  unfolding risen
  split-rises info v other r =
      let more : ℕ → List Kid = λ s. kid s info ∷ kid v other ∷ [] in
      let outs = more k.slot in
      let b = r.edited.became in
      let e = put-so m a n g d p i pre k post t (split info v other) at r more b in
      made-rises m a n g d p pre k post t (split info v other) r outs b i (two_put a p i info v other) refl
      (subst (MakesOf (two_put a p i info v other) a n g p) e
      (put-pair-makes a n g p i info (within m a n g d p i pre k post t (split info v other) at r more b) v other
      (subst (Ready a n g p) (sym e) (ready m a n g d p pre k post t (split info v other) r outs b r.edited)) (omega (arith, b.spent, r.room))))

-- ── too small ──

joined-sized : (l : List ℕ) (p i : ℕ) (all : TextInfo) (few : Bool) → joined_small l p i (cond few (small all) (same all)) ≡ settled l (mended l p (i - 1) all)
joined-sized l p i all true = refl
joined-sized l p i all false = refl

module _ (m a : List ℕ) (n g d p i : ℕ) (pre : List Kid) (k : Kid) (post : List Kid) (t : List ℕ) (at : length pre ≡ i) (info : TextInfo)
    (r : Rising m a n g d p pre k post t (small info)) where
  abbrev x : Kid
  x = kid k.slot info

  abbrev ks : List Kid
  ks = pre ++ (x ∷ post)

  abbrev u : ℕ → ℕ
  u = uses m g k.slot

  abbrev b : Became m a n d u g (x ∷ []) t
  b = r.edited.became

  before : KeptAll m a (same_length m a n d u g (x ∷ []) t b r.slotted) g pre
  before = beside m a n d u g (x ∷ []) t b r.slotted g pre (λ z. omega (arith, r.once z))

  behind : KeptAll m a (same_length m a n d u g (x ∷ []) t b r.slotted) g post
  behind = beside m a n d u g (x ∷ []) t b r.slotted g post (λ z. omega (arith, r.once z))

  own-text : below a g x ≡ t
  own-text = sym (text-one (below a g) x) ∙ b.reads

  loose : Loose a n g p pre x post
  loose =
      record {
        few = r.few;
        slotted = b.slotted;
        there = r.there;
        before = before.fine-too ∙ r.before;
        behind = behind.fine-too ∙ r.behind;
        seams-before = ap seamless before.texts ∙ r.seams-before;
        seams-behind = ap seamless behind.texts ∙ r.seams-behind;
        seam-left =
            ap (λ (l : List ℕ). cr_last l && lf_first (below a g x ++ bytes_all a g post)) before.bytes
            ∙ ap (λ (l : List ℕ). cr_last (bytes_all m g pre) && lf_first (l ++ bytes_all a g post)) own-text
            ∙ ap (λ (l : List ℕ). cr_last (bytes_all m g pre) && lf_first (t ++ l)) behind.bytes
            ∙ r.seam-left;
        seam-right =
            ap (λ (l : List ℕ). cr_last l && lf_first (bytes_all a g post)) own-text ∙ ap (λ (l : List ℕ). cr_last t && lf_first l) behind.bytes ∙ r.seam-right;
        good = r.edited.good;
        size = r.edited.few;
        once = once-too m a n g d p pre k post t (small info) r (x ∷ []) b;
        short = short-too m a n g d p pre k post t (small info) r (x ∷ []) b;
      }

  -- ── put into the list ──

  stays : is_list a p ≡ true
  stays = list-stays m a n g d p pre k post t (small info) r (x ∷ []) b

  many : len_of a p ≡ length pre + (1 + length post)
  many = count m a n g d p pre k post t (small info) r (x ∷ []) b

  abbrev total : TextInfo
  total = counts_of ks

  abbrev mid : List ℕ
  mid = kid_put a p i (kid (get_or (children_of a p) i no_kid).slot info)

  fit : AllFit ks
  fit = loose-fit a n g p pre x post loose r.edited.told

  inside : i < len_of a p
  inside = omega (arith, at, many)

  put-anew : recount i info (children_of a p) ≡ ks
  put-anew = put-so m a n g d p i pre k post t (small info) at r (λ s. kid s info ∷ []) b

  laid : Laid a mid p ks
  laid = subst (Laid a mid p) put-anew (one-laid a p i info stays inside (subst AllFit (sym put-anew) fit))

  put_is : one_put a p i info ≡ value (sized 4 (length ks) total, mid)
  put_is =
      one-is a p i info stays inside (ap (λ (l : List Kid). too_wide (total_of l)) put-anew ∙ loose-narrow a n g p pre x post loose r.edited.told)
      ∙ ap (λ (l : List Kid). value (sized 4 (length l) (counts_of l), mid)) put-anew

  loose-too : Loose mid n g p pre x post
  loose-too = loose-laid a n g p pre x post loose mid laid

  text-too : bytes_all mid g ks ≡ bytes_all a g ks
  text-too = loose-text a n g p pre x post loose mid laid

  listed : Listed mid n g p ks total
  listed =
      record {
        few = r.few;
        slotted = loose-too.slotted;
        there = r.there;
        list = laid.list;
        children = laid.children;
        fit = fit;
        once = loose-too.once;
        short = loose-too.short;
        told =
            ap (λ (l : List ℕ). tells total (sum_of (decode l))) text-too
            ∙ ap (λ (s : TextSum). tells total s) (sym (loose-total a n g p pre x post loose r.edited.told))
            ∙ tells-self (total_of ks);
      }

  -- ── joined there ──

  w : Joins mid n g p i ks total
  w = neighbours mid n g p i total pre x post r.more loose-too listed at

  list-used : (z : ℕ) → hit p z + uses_all mid g ks z ≡ 0 + uses_all mid (suc g) (kid p total ∷ []) z
  list-used z =
      omega (
        arith,
        sum-cons (λ (c : Kid). uses mid (suc g) c.slot z) (kid p total) [],
        sum-none (λ (c : Kid). uses mid (suc g) c.slot z),
        list-uses mid p g z,
        ap (λ (l : List Kid). uses_all mid g l z) laid.children,
      )

  both-steps : MadeIs a w.later n 0 (λ z. hit p z + uses_all a g ks z) (suc g) p (bytes_all a g ks) w.made
  both-steps =
      made_as a w.later n 0 (λ z. 0 + (hit p z + uses_all a g ks z)) (λ z. hit p z + uses_all a g ks z) (suc g) p (bytes_all mid g ks) (bytes_all a g ks) w.made
      (made_then a mid w.later n 0 0 (λ z. hit p z + uses_all a g ks z) (λ z. 0) (suc g) (kid p total ∷ []) (bytes_all a g ks) (λ z. hit p z + uses_all mid g ks z) (suc g) p (bytes_all mid g ks)
      (laid-became a mid n g p ks loose.slotted loose.once laid total) list-used w.made w.is)
      (λ z. omega arith) text-too

  small-rises : Rises m a n g d p i pre k post t (small info)
  unfolding risen small_put
  small-rises =
      record {
        what = w.made;
        later = w.later;
        is =
            ap (λ (o : Outcome (Made × List ℕ)). onward (settled a o) (λ made l. joined_small l p i made)) put_is
            ∙ joined-sized mid p i total (ltb (length ks) 4)
            ∙ ap (settled mid) w.accepted;
        makes = on m a n g d p pre k post t (small info) r (x ∷ []) b w.later w.made 0 (omega arith) both-steps;
      }

-- THEOREM: what became of a child is put into its list, and the list is what became of it
pub rise-makes : (m a : List ℕ) (n g d p i : ℕ) (pre : List Kid) (k : Kid) (post : List Kid) (t : List ℕ) (made : Made) → Rising m a n g d p pre k post t made → length pre ≡ i
    → Rises m a n g d p i pre k post t made
rise-makes m a n g d p i pre k post t (same info) r at = same-rises m a n g d p i pre k post t at info r
rise-makes m a n g d p i pre k post t (split info v other) r at = split-rises m a n g d p i pre k post t at info v other r
rise-makes m a n g d p i pre k post t (small info) r at = small-rises m a n g d p i pre k post t at info r
rise-makes m a n g d p i pre k post t apart r at = absurd r.edited
