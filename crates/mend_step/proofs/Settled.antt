-- The list when two of its children were joined, entry by entry: it has the children that it should. No call needs it; the law of the step does.
use mathlib.Core.Path.{◌≡◌, sym, ap, subst, ◌∙◌}
use mathlib.Core.Bool.{true}
use mathlib.Core.List.{List, [], ◌∷◌, ◌++◌}
use Prim.Native.Nat.{ℕ, ◌+◌, ◌≤◌, ◌<◌}
use native.Mathlib.Omega.{arith}
use lib.ListN.{length, take, drop, get_or, set, length-append}
use lib.Seq.{take_at, drop_at, set_at, get_or_at, append_snoc}
use Rattle.pool.specs.declared.Kid.{Kid}
use Rattle.pool.specs.Slot.{slot_start, len_of, no_kid, Fits, kid_put}
use Rattle.node_children.specs.Kids.{list_of}
use Rattle.node_children.specs.Calls.{without}
use Rattle.nodes.specs.Node.{is_list, children_of, counts_of, list_put}
use Rattle.nodes.proofs.Heads.{list-says}
use Rattle.nodes.proofs.Put.{same}
use Rattle.tree.proofs.Sound.{children-length}
use Rattle.child_info.specs.Kin.{slot_in}
use Rattle.child_info.specs.Renewed.{slot_at, renewed}
use Rattle.child_info.proofs.Found.{slot-at}
use Rattle.edit_steps.specs.Grown.{kid}
use Rattle.list_step.proofs.Laid.{Laid, list-laid, kid-laid}

-- one write behind another
pub laid_then : (l k j : List ℕ) (p : ℕ) (c d : List Kid) → Laid l k p c → Laid k j p d → Laid l j p d
laid_then l k j p c d a b =
    record {
      long = b.long ∙ a.long;
      list = b.list;
      children = b.children;
      others = λ x q. b.others x q ∙ a.others x q;
      head = b.head ∙ a.head;
    }

-- the entry behind `pre` counted anew
module _ (l : List ℕ) (p i : ℕ) (pre : List Kid) (c : Kid) (post : List Kid) (at : length pre ≡ i) (e : is_list l p ≡ true) (is : children_of l p ≡ pre ++ (c ∷ post)) where
  abbrev new : Kid
  new = kid c.slot (counts_of l c.slot)

  inside : i < len_of l p
  inside = omega (arith, children-length l p e, ap length is, length-append pre (c ∷ post))

  slot_is : slot_at l p i ≡ c.slot
  slot_is = sym (slot-at l p i inside) ∙ ap (λ (x : List Kid). slot_in x i) is ∙ ap (λ (x : Kid). x.slot) (get_or_at pre c post no_kid i at)

  pub renew-laid : Fits new → Laid l (renewed l p i) p (pre ++ (new ∷ post))
  renew-laid f =
      subst (λ (s : ℕ). Laid l (kid_put l p i (kid s (counts_of l s))) p (pre ++ (new ∷ post))) (sym slot_is)
      (subst (Laid l (kid_put l p i new) p) (ap (λ (x : List Kid). set x i new) is ∙ set_at pre c post new i at) (kid-laid l p i e inside new f))

module _ (l : List ℕ) (p i : ℕ) (pre : List Kid) (x y : Kid) (post : List Kid) (at : length pre ≡ i) (e : is_list l p ≡ true) (is : children_of l p ≡ pre ++ (x ∷ y ∷ post)) where
  abbrev ks : List Kid
  ks = pre ++ (x ∷ y ∷ post)

  abbrev nx : Kid
  nx = kid x.slot (counts_of l x.slot)

  abbrev ny : Kid
  ny = kid y.slot (counts_of l y.slot)

  one_more : (z : Kid) → length (pre ++ (z ∷ [])) ≡ i + 1
  one_more z = length-append pre (z ∷ []) ∙ omega (arith, at)

  -- ── merged ──

  less : without (i + 1) ks ≡ pre ++ (x ∷ post)
  less =
      let s : (pre ++ (x ∷ [])) ++ (y ∷ post) ≡ ks = append_snoc pre x (y ∷ post) in
      let r : (pre ++ (x ∷ y ∷ [])) ++ post ≡ ks = ap (λ (t : List Kid). t ++ post) (sym (append_snoc pre x (y ∷ []))) ∙ append_snoc (pre ++ (x ∷ [])) y post ∙ s in
      let n : length (pre ++ (x ∷ y ∷ [])) ≡ (i + 1) + 1 = length-append pre (x ∷ y ∷ []) ∙ omega (arith, at) in
      ap (λ (t : List Kid). t ++ drop ((i + 1) + 1) ks) (ap (take (i + 1)) (sym s) ∙ take_at (pre ++ (x ∷ [])) (y ∷ post) (i + 1) (one_more x))
      ∙ ap (λ (t : List Kid). (pre ++ (x ∷ [])) ++ t) (ap (drop ((i + 1) + 1)) (sym r) ∙ drop_at (pre ++ (x ∷ y ∷ [])) post ((i + 1) + 1) n)
      ∙ append_snoc pre x post

  module _ (fit : (j : ℕ) → j < length (pre ++ (x ∷ post)) → Fits (get_or (pre ++ (x ∷ post)) j no_kid)) (off : x.slot ≡ p → ⊥) where
    abbrev short : List Kid
    short = pre ++ (x ∷ post)

    room : slot_start p + 640 ≤ length l
    room = (list-says l p e).0

    short-length : length short ≤ 16
    short-length = omega (arith, length-append pre (x ∷ post), length-append pre (x ∷ y ∷ post), ap length is, children-length l p e, (list-says l p e).2)

    abbrev mid : List ℕ
    mid = list_put l p (list_of short)

    mid-laid : Laid l mid p short
    mid-laid = list-laid l p short room short-length fit

    counts-stay : counts_of mid x.slot ≡ counts_of l x.slot
    counts-stay = (same mid l x.slot (mid-laid.others x.slot off) mid-laid.long).counts

    -- THEOREM: merged, the list has no second child, and the first one's counts
    pub merged-laid : Fits nx → Laid l (renewed (list_put l p (list_of (without (i + 1) ks))) p i) p (pre ++ (nx ∷ post))
    merged-laid f =
        let g : Fits (kid x.slot (counts_of mid x.slot)) = subst (λ t. Fits (kid x.slot t)) (sym counts-stay) f in
        let a : Laid l (renewed mid p i) p (pre ++ (kid x.slot (counts_of mid x.slot) ∷ post)) =
        laid_then l mid (renewed mid p i) p short (pre ++ (kid x.slot (counts_of mid x.slot) ∷ post)) mid-laid (renew-laid mid p i pre x post at mid-laid.list mid-laid.children g) in
        subst (λ (t : List Kid). Laid l (renewed (list_put l p (list_of t)) p i) p (pre ++ (nx ∷ post))) (sym less)
        (subst (λ t. Laid l (renewed mid p i) p (pre ++ (kid x.slot t ∷ post))) counts-stay a)

  -- ── distributed ──

  -- THEOREM: else the counts of both
  pub shared-laid : Fits nx → Fits ny → (y.slot ≡ p → ⊥) → Laid l (renewed (renewed l p i) p (i + 1)) p (pre ++ (nx ∷ ny ∷ post))
  shared-laid f g off =
      let k = renewed l p i in
      let a : Laid l k p (pre ++ (nx ∷ y ∷ post)) = renew-laid l p i pre x (y ∷ post) at e is f in
      let s : counts_of k y.slot ≡ counts_of l y.slot = (same k l y.slot (a.others y.slot off) a.long).counts in
      let b = renew-laid k p (i + 1) (pre ++ (nx ∷ [])) y post (one_more nx) a.list (a.children ∙ sym (append_snoc pre nx (y ∷ post))) (subst (λ t. Fits (kid y.slot t)) (sym s) g) in
      laid_then l k (renewed k p (i + 1)) p (pre ++ (nx ∷ y ∷ post)) (pre ++ (nx ∷ ny ∷ post)) a
      (subst (λ t. Laid k (renewed k p (i + 1)) p (pre ++ (nx ∷ kid y.slot t ∷ post))) s
      (subst (Laid k (renewed k p (i + 1)) p) (append_snoc pre nx (kid y.slot (counts_of k y.slot) ∷ post)) b))
