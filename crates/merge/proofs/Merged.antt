-- `merge_distribute` as a whole: from the answers of the check and of the join to what the call comes to.
use Rattle.std.specs.Prelude.{Ok, Err}
use mathlib.Core.Path.{◌≡◌, refl, sym, ap, subst, ◌∙◌}
use mathlib.Core.Bool.{Bool, true, false, cond}
use mathlib.Core.List.{List, [], ◌∷◌, ◌++◌}
use Prim.Native.Nat.{ℕ, ◌+◌, ◌≤◌, ◌<◌}
use native.Mathlib.Omega.{arith}
use lib.ListN.{length}
use borrow.Author.Tests.{eqb-false}
use Rattle.plain.specs.Outcome.{Outcome, Outcome.value, Outcome.refused, Rule, ruled, mapped}
use Rattle.answer.specs.Answers.{refusal_number, Answer, outcome}
use Rattle.answer.specs.declared.Refusal.{Refusal}
use Rattle.plain.proofs.Outcome.{clash}
use Rattle.leaf_bytes.proofs.Opened.{never}
use Rattle.pool.specs.declared.Kid.{Kid}
use Rattle.pool.specs.Slot.{slot_start}
use Rattle.pool.specs.Calls.{Wrote}
use Rattle.node_children.specs.declared.NodeChildren.{NodeChildren}
use Rattle.node_children.specs.declared.Listed.{Listed}
use Rattle.node_children.specs.Kids.{kids, list_of, Listing}
use Rattle.node_children.proofs.Lists.{kids-of}
use Rattle.nodes.specs.Node.{is_list, children_of}
use Rattle.nodes.specs.Calls.{loaded}
use Rattle.nodes.proofs.Heads.{leaf-says, list-says}
use Rattle.nodes.proofs.Put.{Same, same}
use Rattle.child_info.specs.Kin.{slot_in}
use Rattle.child_info.specs.Leaves.{Alike, Alike.leaves, Alike.lists, Mergeable}
use Rattle.child_info.specs.Calls.{after, pair_rules}
use Rattle.child_info.proofs.Rules.{tested, children-length}
use Rattle.child_info.proofs.Found.{PairFound, pair_found}
use Rattle.merge.specs.Join.{joined, Joined, AllFit}
use Rattle.merge.specs.Merge.{settled_memory, settled, Ready, merged, merging}
use Rattle.merge.proofs.Joins.{joined-done, joined-not, joined_same}
use Rattle.merge.proofs.JoinedLists.{few-children, load-list, load-never}
use Rattle.merge.proofs.Ready.{After, joined-after}

-- ── an outcome behind rules ──

after-not : {A : Type 0} (rs : List Rule) (o : Outcome A) (n : ℕ) → tested rs ≡ refused n → after rs o ≡ refused n
unfolding after ruled
after-not [] o n e = absurd (never n tt (sym e))
after-not {A} (r ∷ rs) o n e = go r.1 e (after-not rs o n)
  where
    go : (t : Bool) → cond t (refused r.0) (tested rs) ≡ refused n → (tested rs ≡ refused n → after rs o ≡ refused n) → cond t (refused r.0) (after rs o) ≡ refused n
    go true e f = let z : r.0 ≡ n = cc in ap (λ (k : ℕ). refused k) z
    go false e f = f e

after_is : {A : Type 0} (rs : List Rule) (o : Outcome A) → tested rs ≡ value tt → after rs o ≡ o
unfolding after ruled
after_is [] o e = refl
after_is {A} (r ∷ rs) o e = go r.1 e (after_is rs o)
  where
    go : (t : Bool) → cond t (refused r.0) (tested rs) ≡ value tt → (tested rs ≡ value tt → after rs o ≡ o) → cond t (refused r.0) (after rs o) ≡ o
    go true e f = absurd (never r.0 tt e)
    go false e f = f e

-- ── slots by another name ──

pub list-small : (m : List ℕ) (p : ℕ) (list : NodeChildren) → is_list m p ≡ true → list ≡ list_of (children_of m p) → list.len ≤ 16
unfolding list_of
list-small m p list e f = let n = ap (λ (c : NodeChildren). c.len) f in omega (arith, n, few-children m p e)

module _ (m : List ℕ) (x y a b : ℕ) (e : x ≡ a) (f : y ≡ b) where
  pub alike_at : Alike m a b → Alike m x y
  alike_at g = subst (λ (u : ℕ). Alike m u y) (sym e) (subst (λ (v : ℕ). Alike m a v) (sym f) g)

  abbrev Opened : ℕ → ℕ → Answer Bool → List ℕ → Type 0
  Opened u v r l = Joined (joined m u v) m r l × ((q : Bool) → outcome r ≡ value q → is_list m u ≡ true → AllFit (children_of m u ++ children_of m v))

  pub join-at : (r : Answer Bool) (l : List ℕ) → Opened x y r l → Opened a b r l
  join-at r l w = subst (λ (u : ℕ). Opened u b r l) e (subst (λ (v : ℕ). Opened x v r l) f w)

-- ── the join opened ──

joined-value : (o : Outcome (Bool × List ℕ)) (m : List ℕ) (r : Answer Bool) (q : Bool) (l : List ℕ) → Joined o m r l → r ≡ Ok q → o ≡ value (q, l)
joined-value (refused n) m r q l j e = absurd (never n q (sym j.answered ∙ ap outcome e))
joined-value (value (p, k)) m r q l j e =
    let z : value p ≡ value q = sym j.answered ∙ ap outcome e in
    let y : p ≡ q = cc in
    ap (λ (x : Bool). value (x, k)) y ∙ ap (λ (x : List ℕ). value (q, x)) (sym j.memory)

module _ (m : List ℕ) (p i j : ℕ) (list : NodeChildren) (e : is_list m p ≡ true) (f : list ≡ list_of (children_of m p))
    (g : Mergeable m p (slot_in (kids list) i) (slot_in (kids list) j)) (h : Ready m p (slot_in (kids list) i) (slot_in (kids list) j)) where
  abbrev a : ℕ
  a = slot_in (kids list) i

  abbrev b : ℕ
  b = slot_in (kids list) j

  module _ (r : Answer Bool) (l : List ℕ) (w : Joined (joined m a b) m r l × ((q : Bool) → outcome r ≡ value q → is_list m a ≡ true → AllFit (children_of m a ++ children_of m b))) where
    module _ (q : Bool) (is : r ≡ Ok q) where
      after-join : After m a b l
      after-join = joined-after m a b g.alike h.right-counts (w.1 q (ap outcome is)) q l (joined-value (joined m a b) m r q l w.0 is)

      stays : Same l m p
      stays = same l m p (after-join.others p (eqb-false p a g.first) (eqb-false p b g.second)) after-join.size

      pub may-settle : i < j → j < list.len → (is_list l p ≡ true) × (list ≡ list_of (children_of l p)) × (i < j) × (j < list.len) × Ready l p a b
      may-settle x y = (
        stays.list ∙ e,
        f ∙ ap list_of (sym stays.children),
        x,
        y,
        record { left-counts = after-join.left; right-counts = after-join.right; first = h.first; second = h.second },
      )

      pub merged-done : (v : Answer (Unit {0})) (t : Answer Bool) (k : List ℕ) → Wrote (value (settled_memory p (kids list) i j q l)) l v k → outcome t ≡ mapped (λ x. q) (outcome v)
          → Joined (merged m p (kids list) i j) m t k
      merged-done v t k x d =
          joined-done (merged m p (kids list) i j) m t k q (settled_memory p (kids list) i j q l)
          (ap (mapped (settled p (kids list) i j)) (joined-value (joined m a b) m r q l w.0 is)) (d ∙ ap (mapped (λ y. q)) x.answered) x.memory

    pub merged-not : (q : Refusal) → r ≡ Err q → Joined (merged m p (kids list) i j) m (Err q) l
    merged-not q is = go (joined m a b) refl w.0
      where
        go : (o : Outcome (Bool × List ℕ)) → joined m a b ≡ o → Joined o m r l → Joined (merged m p (kids list) i j) m (Err q) l
        go (value v) z x = absurd (never (refusal_number q) v.0 (sym (ap outcome is) ∙ x.answered))
        go (refused n) z x =
            joined-not (merged m p (kids list) i j) m (Err q) l n (ap (mapped (settled p (kids list) i j)) z) (sym (ap outcome is) ∙ x.answered) x.memory

-- ── the call ──

module _ (m : List ℕ) (p i j : ℕ) where
  pub merging-not : (q : Refusal) → refused (refusal_number q) ≡ tested (pair_rules m p i j) → Joined (merging m p i j) m (Err q) m
  unfolding merging
  merging-not q e = joined-not (merging m p i j) m (Err q) m (refusal_number q) (after-not (pair_rules m p i j) (merged m p (children_of m p) i j) (refusal_number q) (sym e)) refl refl

  -- of an accepted call the second child lies in the memory
  pub merging-there : (v : Bool × List ℕ) → merging m p i j ≡ value v → slot_start (slot_in (children_of m p) j) + 640 ≤ length m
  unfolding merging
  merging-there v e = go (tested (pair_rules m p i j)) refl
    where
      right_there : (a b : ℕ) → Alike m a b → slot_start b + 640 ≤ length m
      right_there a b (leaves t) = (leaf-says m b t.right.leaf).0
      right_there a b (lists x y z) = (list-says m b y).0

      go : (o : Outcome (Unit {0})) → tested (pair_rules m p i j) ≡ o → slot_start (slot_in (children_of m p) j) + 640 ≤ length m
      go (value u) z = right_there (slot_in (children_of m p) i) (slot_in (children_of m p) j) (pair_found m p i j z).pair.alike
      go (refused n) z = clash n v (sym (after-not (pair_rules m p i j) (merged m p (children_of m p) i j) n z) ∙ e)

  -- what is loaded then
  pub loaded-list : value tt ≡ tested (pair_rules m p i j) → (r : Listed) → Listing (loaded m p) (list_of []) r → r.list ≡ list_of (children_of m p)
  loaded-list e r w = (load-list m p (pair_found m p i j (sym e)).list r w).0

  pub loaded-never : {X : Type 0} → value tt ≡ tested (pair_rules m p i j) → (r : Listed) → Listing (loaded m p) (list_of []) r → (q : Refusal)
      → r.verdict ≡ Err q → X
  loaded-never {X} e r w q f = load-never m p (pair_found m p i j (sym e)).list r w q f

  module _ (e : value tt ≡ tested (pair_rules m p i j)) (list : NodeChildren) (f : list ≡ list_of (children_of m p)) where
    found : PairFound m p i j
    found = pair_found m p i j (sym e)

    back : children_of m p ≡ kids list
    back = sym (ap kids f ∙ kids-of (children_of m p))

    pub may-merge : (is_list m p ≡ true) × (list ≡ list_of (children_of m p)) × (i < j) × (j < list.len) × Mergeable m p (slot_in (kids list) i) (slot_in (kids list) j) × Ready m p (slot_in (kids list) i) (slot_in (kids list) j)
    unfolding list_of
    may-merge =
        let len : list.len ≡ length (children_of m p) = ap (λ (c : NodeChildren). c.len) f in
        let n = children-length m p found.list in
        let ready : Ready m p (slot_in (children_of m p) i) (slot_in (children_of m p) j) = record {
          left-counts = found.left-counts;
          right-counts = found.right-counts;
          first = found.pair.first;
          second = found.pair.second;
        } in (
          found.list,
          f,
          found.rise,
          (let c = found.child in omega arith),
          subst (λ (x : List Kid). Mergeable m p (slot_in x i) (slot_in x j)) back found.pair,
          subst (λ (x : List Kid). Ready m p (slot_in x i) (slot_in x j)) back ready,
        )

    pub merging-done : (r : Answer Bool) (l : List ℕ) → Joined (merged m p (kids list) i j) m r l → Joined (merging m p i j) m r l
    unfolding merging
    merging-done r l w =
        joined_same (merging m p i j) m r l (merged m p (kids list) i j)
        (after_is (pair_rules m p i j) (merged m p (children_of m p) i j) (sym e) ∙ ap (λ (x : List Kid). merged m p x i j) back) w
