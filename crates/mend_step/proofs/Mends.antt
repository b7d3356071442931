-- THEOREM of `mend`: where two neighbours in a list may be joined, the step is accepted, and what it made of the list is as good as any node, or good
-- but for its size. It spends no free slot.
use Rattle.std.specs.Prelude.{Ok}
use mathlib.Core.Path.{◌≡◌, refl, sym, ap, subst, ◌∙◌}
use mathlib.Core.Bool.{Bool, true, false}
use mathlib.Core.List.{List, [], ◌∷◌, ◌++◌}
use Prim.Native.Nat.{ℕ, suc, ◌+◌, ◌-◌, ◌≤◌, ◌<◌}
use native.Mathlib.Omega.{arith}
use lib.ListN.{length, get_or, length-append}
use lib.Seq.{get_or_at, append_snoc}
use Rattle.plain.specs.Outcome.{Outcome, Outcome.value, kept}
use Rattle.text_info.specs.declared.TextInfo.{TextInfo}
use Rattle.pool.specs.declared.Kid.{Kid}
use Rattle.pool.specs.Slot.{len_of, no_kid, Fits}
use Rattle.node_children.specs.Kids.{list_of}
use Rattle.node_children.specs.Calls.{without}
use Rattle.node_children.proofs.Lists.{kids-of}
use Rattle.nodes.specs.Node.{children_of, counts_of, list_put}
use Rattle.nodes.proofs.Heads.{list-says}
use Rattle.nodes.proofs.Put.{Same, same as node-same}
use Rattle.tree.specs.Tree.{hit, uses}
use Rattle.tree.proofs.Sound.{children-length}
use Rattle.tree.proofs.Frame.{hit-self}
use Rattle.child_info.specs.Kin.{slot_in}
use Rattle.child_info.specs.Renewed.{renewed}
use Rattle.merge.specs.Join.{joined}
use Rattle.merge.specs.Merge.{settled_memory}
use Rattle.free_slots.specs.Slots.{given, given_memory}
use Rattle.free_slots.proofs.Laws.{given-value, given_is}
use Rattle.edit_steps.specs.Made.{Made, Made.same, Made.split, Made.small, Made.apart, sized}
use Rattle.edit_steps.specs.Became.{uses_all, free, Became}
use Rattle.edit_steps.specs.Grown.{kid, MadeIs}
use Rattle.edit_steps.proofs.Rules.{same_length}
use Rattle.list_step.proofs.Rules.{list-len}
use Rattle.list_step.proofs.Totals.{all_fit}
use Rattle.list_step.proofs.Family.{Family}
use Rattle.mend_step.specs.Mended.{closed, mended}
use Rattle.mend_step.proofs.Rules.{paired_is, mended-by, join-value}
use Rattle.list_step.proofs.Laid.{Laid}
use Rattle.mend_step.proofs.Freed.{grown-freed, shrunk-freed}
use Rattle.mend_step.proofs.Pairs.{Merges, Shares, uses-self, slots_apart}
use Rattle.mend_step.proofs.Settled.{merged-laid, shared-laid}
use Rattle.mend_step.proofs.Asked.{sound-counted, not-mixed, merging-is}
use Rattle.mend_step.proofs.Among.{made_as}
use Rattle.mend_step.proofs.Around.{Joint, Joint.merges, Joint.shares, joint, all, uses_both, two, Lame, family, laid-all}

-- the step is accepted, and made this of the list in slot p
pub record Mends (m : List ℕ) (n g p i : ℕ) (pre : List Kid) (x y : Kid) (post : List Kid) (info : TextInfo) : Type 0 where
  pub made : Made
  pub later : List ℕ
  pub accepted : mended m p i info ≡ value (made, later)
  pub is : MadeIs m later n 0 (λ z. hit p z + (uses_all m g pre z + (uses_both m g x y z + uses_all m g post z))) (suc g) p (all m g pre x y post) made

-- a slot given back behind a step that left it
module _ (m mid : List ℕ) (n d b : ℕ) (u : ℕ → ℕ) (h s : ℕ) (t : List ℕ) (few : n < 4294967296) (low : b < n) (left : u b + free m n b ≡ 0) (q : s ≡ b → ⊥) where
  abbrev after : List ℕ
  after = given_memory mid b

  given_back : (made : Made) → MadeIs m mid n d u h s t made → MadeIs m after n d (λ z. u z + hit b z) h s t made × (given mid b ≡ value after)
  given_back (same i) r =
      let none : free mid n b ≡ 0 = omega (arith, r.became.conserve b) in (
        grown-freed m mid after n d b u h t (given_is mid n few r.became.slotted b low none) (kid s i ∷ []) r (omega (arith, r.became.conserve b)),
        given-value mid n few r.became.slotted b low none,
      )
  given_back (split i c j) r =
      let none : free mid n b ≡ 0 = omega (arith, r.became.conserve b) in (
        grown-freed m mid after n d b u h t (given_is mid n few r.became.slotted b low none) (kid s i ∷ kid c j ∷ []) r (omega (arith, r.became.conserve b)),
        given-value mid n few r.became.slotted b low none,
      )
  given_back (small i) r =
      let none : free mid n b ≡ 0 = omega (arith, r.became.conserve b) in (
        shrunk-freed m mid after n d b u h t (given_is mid n few r.became.slotted b low none) (kid s i) r (omega (arith, r.became.conserve b)) q,
        given-value mid n few r.became.slotted b low none,
      )
  given_back apart r = absurd r

module _ (m : List ℕ) (n g p i : ℕ) (pre : List Kid) (x y : Kid) (post : List Kid) (info : TextInfo) (r : Lame m n g p pre x y post info) (at : length pre ≡ i) where
  abbrev a : ℕ
  a = x.slot

  abbrev b : ℕ
  b = y.slot

  count : len_of m p ≡ length pre + (2 + length post)
  count = sym (children-length m p r.list) ∙ ap length r.children ∙ length-append pre (x ∷ y ∷ post) ∙ omega arith

  is_x : get_or (children_of m p) i no_kid ≡ x
  is_x = ap (λ (l : List Kid). get_or l i no_kid) r.children ∙ get_or_at pre x (y ∷ post) no_kid i at

  is_y : get_or (children_of m p) (i + 1) no_kid ≡ y
  is_y =
      ap (λ (l : List Kid). get_or l (i + 1) no_kid) (r.children ∙ sym (append_snoc pre x (y ∷ post)))
      ∙ get_or_at (pre ++ (x ∷ [])) y post no_kid (i + 1) (length-append pre (x ∷ []) ∙ omega (arith, at))

  not-p : (s : ℕ) → 1 ≤ uses m g s s → uses m g s p ≤ uses_both m g x y p → s ≡ p → ⊥
  not-p s e f q = omega (arith, r.once p, hit-self p, ap (uses m g s) q)

  px : a ≡ p → ⊥
  px = not-p a (uses-self m g a) (omega arith)

  py : b ≡ p → ⊥
  py = not-p b (uses-self m g b) (omega arith)

  abbrev done : Bool → List ℕ → List ℕ
  done q l = settled_memory p (children_of m p) i (i + 1) q l

  -- the call, by what the two come to
  mended-is : (q : Bool) (l : List ℕ) → joined m a b ≡ value (q, l) → mended m p i info ≡ value (closed (done q l) q b (len_of m p) info)
  mended-is q l e =
      let ks = children_of m p in
      mended-by m p i info (value (list_of ks)) (paired_is m p i r.list (omega (arith, count, at)))
      ∙ join-value m p (list_of ks) i info (Ok q) (done q l)
      (merging-is m p i x y r.list (omega (arith, count, at)) is_x is_y (sound-counted m g a r.pair.left (omega (arith, r.pair.short))) (sound-counted m g b r.pair.right (omega (arith, r.pair.short)))
      (not-mixed m g x y r.pair.left r.pair.right) px py (λ z. slots_apart m n g a b r.pair (sym z)) q l e) q refl
      ∙ ap (λ (c : List Kid). value (closed (done q l) q (slot_in c (i + 1)) (list_of ks).len info)) (kids-of ks)
      ∙ ap (λ (c : Kid). value (closed (done q l) q c.slot (list_of ks).len info)) is_y
      ∙ ap (λ (j : ℕ). value (closed (done q l) q b j info)) (list-len ks ∙ children-length m p r.list)

  -- the list itself stays where the two are joined
  stays : (l : List ℕ) (u : ℕ → ℕ) (outs : List Kid) (t : List ℕ) → Became m l n 0 u g outs t → u p ≤ uses_both m g x y p → Same l m p
  stays l u outs t w e =
      node-same l m p (w.only p (omega (arith, r.once p, hit-self p))) (same_length m l n 0 u g outs t w r.pair.slotted)

  fits-at : (l : List ℕ) (ks : List Kid) → Family l n g p ks → (before : List Kid) (k : Kid) (behind : List Kid) → before ++ (k ∷ behind) ≡ ks → Fits k
  fits-at l ks f before k behind e =
      subst Fits (ap (λ (c : List Kid). get_or c (length before) no_kid) (sym e) ∙ get_or_at before k behind no_kid (length before) refl)
      (all_fit l g ks f.each f.small (omega (arith, f.slotted.long, f.few)) (length before) (omega (arith, ap length e, length-append before (k ∷ behind))))

  -- ── distributed ──

  shared-mends : (l : List ℕ) → Shares m n g a b l → Mends m n g p i pre x y post info
  shared-mends l w =
      let ka = kid a (counts_of l a) in
      let kb = kid b (counts_of l b) in
      let most : length (pre ++ (ka ∷ kb ∷ post)) ≤ 16 = omega (arith, length-append pre (ka ∷ kb ∷ post), count, (list-says m p r.list).2) in
      let f = family m n g p pre x y post info r l (uses_both m g x y) ka (kb ∷ []) w.grown (λ z. omega arith) most in
      let s = stays l (uses_both m g x y) (ka ∷ kb ∷ []) (two m g x y) w.grown.became (omega arith) in
      let d : Laid l (renewed (renewed l p i) p (i + 1)) p (pre ++ (ka ∷ kb ∷ post)) =
      shared-laid l p i pre x y post at (s.list ∙ r.list) (s.children ∙ r.children) (fits-at l (pre ++ (ka ∷ kb ∷ post)) f pre ka (kb ∷ post) refl)
      (fits-at l (pre ++ (ka ∷ kb ∷ post)) f (pre ++ (ka ∷ [])) kb post (append_snoc pre ka (kb ∷ post))) py in
      let long : len_of m p ≡ length (pre ++ (ka ∷ kb ∷ post)) = omega (arith, count, length-append pre (ka ∷ kb ∷ post)) in
      record {
        made = sized 4 (length (pre ++ (ka ∷ kb ∷ post))) info;
        later = done false l;
        accepted = mended-is false l w.accepted ∙ ap (λ (j : ℕ). value (sized 4 j info, done false l)) long;
        is = laid-all m n g p pre x y post info r l (uses_both m g x y) ka (kb ∷ []) w.grown (λ z. omega arith) most (done false l) d;
      }

  -- ── merged ──

  merged-mends : (l : List ℕ) → Merges m n g a b l → Mends m n g p i pre x y post info
  merged-mends l w =
      let ka = kid a (counts_of l a) in
      let sub : (z : ℕ) → w.u z ≤ uses_both m g x y z = λ z. omega (arith, w.parts z) in
      let most : length (pre ++ (ka ∷ post)) ≤ 16 = omega (arith, length-append pre (ka ∷ post), count, (list-says m p r.list).2) in
      let f = family m n g p pre x y post info r l w.u ka [] w.grown sub most in
      let s = stays l w.u (ka ∷ []) (two m g x y) w.grown.became (sub p) in
      let d : Laid l (done true l) p (pre ++ (ka ∷ post)) =
      subst (λ (c : List Kid). Laid l (renewed (list_put l p (list_of (without (i + 1) c))) p i) p (pre ++ (ka ∷ post))) (sym r.children)
      (merged-laid l p i pre x y post at (s.list ∙ r.list) (s.children ∙ r.children) r.fit px (fits-at l (pre ++ (ka ∷ post)) f pre ka post refl)) in
      let first = laid-all m n g p pre x y post info r l w.u ka [] w.grown sub most (done true l) d in
      let left : hit p b + (uses_all m g pre b + (w.u b + uses_all m g post b)) + free m n b ≡ 0 = omega (arith, r.once b, w.parts b, hit-self b) in
      let back = given_back m (done true l) n 0 b (λ z. hit p z + (uses_all m g pre z + (w.u z + uses_all m g post z))) (suc g) p (all m g pre x y post) r.pair.few r.pair.right_there left
      (λ z. py (sym z)) (sized 4 (length (pre ++ (ka ∷ post))) info) first in
      let long : len_of m p - 1 ≡ length (pre ++ (ka ∷ post)) = omega (arith, count, length-append pre (ka ∷ post)) in
      record {
        made = sized 4 (length (pre ++ (ka ∷ post))) info;
        later = given_memory (done true l) b;
        accepted =
            mended-is true l w.accepted
            ∙ ap (λ (j : ℕ). value (sized 4 j info, kept (done true l) (given (done true l) b))) long
            ∙ ap (λ (o : Outcome (List ℕ)). value (sized 4 (length (pre ++ (ka ∷ post))) info, kept (done true l) o)) back.1;
        is =
            made_as m (given_memory (done true l) b) n 0 (λ z. hit p z + (uses_all m g pre z + (w.u z + uses_all m g post z)) + hit b z)
            (λ z. hit p z + (uses_all m g pre z + (uses_both m g x y z + uses_all m g post z))) (suc g) p (all m g pre x y post) (all m g pre x y post)
            (sized 4 (length (pre ++ (ka ∷ post))) info) back.0 (λ z. omega (arith, w.parts z)) refl;
      }

  -- THEOREM: the two are joined, and the list is what became of it
  pub mend-makes : Mends m n g p i pre x y post info
  mend-makes = go (joint m n g a b r.pair)
    where
      go : Joint m n g a b → Mends m n g p i pre x y post info
      go (merges l w) = merged-mends l w
      go (shares l w) = shared-mends l w
