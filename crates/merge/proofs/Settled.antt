-- A list brought up to date when two of its children were joined: each is counted anew where it lies.
use Rattle.answer.specs.Answers.{Answer, outcome}
use Rattle.std.specs.Prelude.{Err}
use mathlib.Core.Path.{◌≡◌, sym, ap, subst, ◌∙◌}
use mathlib.Core.Bool.{Bool, true}
use mathlib.Core.List.{List}
use Prim.Native.Nat.{ℕ, ◌+◌, ◌-◌, ◌≤◌, ◌<◌}
use native.Mathlib.Omega.{arith}
use lib.ListN.{length, take, drop, get_or, length-append, length-drop, get_or-append}
use lib.Seq.{length-take-le, get_or-take}
use borrow.Author.Tests.{eqb-false}
use Rattle.plain.specs.Outcome.{Outcome, Outcome.value, kept, mapped}
use Rattle.plain.proofs.Logic.{cut}
use Rattle.answer.specs.declared.Refusal.{Refusal}
use Rattle.answer.proofs.Opened.{never-refused}
use Rattle.pool.specs.declared.Kid.{Kid}
use Rattle.pool.specs.Slot.{slot_start, kid_start, slot_of, len_of, region_of, kid_at, kid_bytes, entries, no_kid, kid_put}
use Rattle.pool.specs.Calls.{Wrote}
use Rattle.octets.proofs.Over.{part-before, part-behind}
use Rattle.pool.proofs.Kids.{kid-length, kid-part}
use Rattle.pool.proofs.Slots.{kid-lies, head-same, kid-head, kid-others, kid-size}
use Rattle.node_children.specs.declared.NodeChildren.{NodeChildren}
use Rattle.node_children.specs.declared.Taken.{Taken}
use Rattle.node_children.specs.Kids.{kids, list_of, Taking}
use Rattle.node_children.specs.Calls.{without, removed}
use Rattle.node_children.proofs.Lists.{kids-of}
use Rattle.node_children.proofs.Rules.{removed-done}
use Rattle.nodes.specs.Node.{is_list, children_of, counts_of, list_put, Fitting}
use Rattle.nodes.specs.Calls.{counted, stored, Fitted}
use Rattle.nodes.proofs.Heads.{not-outside, list-says, list-is}
use Rattle.nodes.proofs.Put.{list-size, list-len, list_put_lem, list-children, list-others, same}
use Rattle.nodes.proofs.Accepted.{counted_is, counted-only}
use Rattle.child_info.specs.Kin.{slot_in}
use Rattle.child_info.specs.Renewed.{slot_at, renewed}
use Rattle.child_info.specs.Calls.{updated}
use Rattle.child_info.proofs.Rules.{children-length}
use Rattle.child_info.proofs.Found.{renews, updated-renews, slot-at}
use Rattle.merge.specs.Merge.{settled_memory, Ready}
use Rattle.merge.proofs.JoinedLists.{list-stored}

-- ── a node in a slot that stays ──

pub counted_same : (l m : List ℕ) (u : ℕ) → slot_of l u ≡ slot_of m u → length l ≡ length m → counted m u ≡ value (counts_of m u) → counted l u ≡ value (counts_of l u)
counted_same l m u e n c = let s = same l m u e n in let k = counted-only m u (counts_of m u) c in counted_is l u (s.lost-too ∙ k.0) (s.ill-too ∙ k.1)

-- ── the other entries of a list stay when one is written ──

pub entry-stays : (m : List ℕ) (s i j : ℕ) (k : Kid) → slot_start s + 640 ≤ length m → i < 16 → j < 16 → (j ≡ i → ⊥)
    → get_or (entries (region_of (kid_put m s i k) s)) j no_kid ≡ get_or (entries (region_of m s)) j no_kid
entry-stays m s i j k h a b n =
    let n20 = kid-length k in
    let z : kid_start s j + 0 ≡ kid_start s j = omega arith in
    let bytes : take 20 (drop (kid_start s j) (kid_put m s i k)) ≡ take 20 (drop (kid_start s j) m) =
    cut j i (λ l. part-before (kid_start s i) (kid_bytes k) m (omega arith) (kid_start s j) 20 (omega arith))
    (λ l. cut i j (λ g. part-behind (kid_start s i) (kid_bytes k) m (omega arith) (kid_start s j) 20 (omega arith)) (λ g. absurd (n (omega arith)))) in
    kid-lies (kid_put m s i k) s j b
    ∙ ap (kid_at (kid_put m s i k)) (sym z)
    ∙ sym (kid-part (kid_put m s i k) (kid_start s j) 20 0 (omega arith))
    ∙ ap (λ (x : List ℕ). kid_at x 0) bytes
    ∙ kid-part m (kid_start s j) 20 0 (omega arith)
    ∙ ap (kid_at m) z
    ∙ sym (kid-lies m s j b)

-- the list with entry i counted anew is a list as before
module _ (m : List ℕ) (p i : ℕ) (e : is_list m p ≡ true) (h : i < 16) where
  abbrev new : Kid
  new = record { slot = slot_at m p i; info = counts_of m (slot_at m p i) }

  there : slot_start p + 640 ≤ length m
  there = (list-says m p e).0

  renewed-size : length (renewed m p i) ≡ length m
  renewed-size = kid-size m p i new there h

  renewed-len : len_of (renewed m p i) p ≡ len_of m p
  renewed-len = (head-same (renewed m p i) m p (kid-head m p i new there h)).1

  renewed-list : is_list (renewed m p i) p ≡ true
  renewed-list =
      let s = list-says m p e in
      list-is (renewed m p i) p (omega (arith, renewed-size)) ((head-same (renewed m p i) m p (kid-head m p i new there h)).0 ∙ s.1) (omega (arith, renewed-len, s.2))

-- ── one update that is accepted ──

update-is : (m : List ℕ) (p i : ℕ) (v : Answer (Unit {0})) (after : List ℕ) → is_list m p ≡ true → i < len_of m p → counted m (slot_at m p i) ≡ value (counts_of m (slot_at m p i))
    → Wrote (updated m p i) m v after → Wrote (value (renewed m p i)) m v after
update-is m p i v after e h c w = subst (λ (o : Outcome (List ℕ)). Wrote o m v after) (updated-renews m p i e h (renews m p i c)) w

counted-at : (m : List ℕ) (s t : ℕ) → s ≡ t → counted m t ≡ value (counts_of m t) → counted m s ≡ value (counts_of m s)
counted-at m s t e c = ap (counted m) e ∙ c ∙ sym (ap (λ (u : ℕ). value (counts_of m u)) e)

pub settled-as : (m : List ℕ) (p : ℕ) (ks : List Kid) (i j : ℕ) (x y : Bool) (v : Answer (Unit {0})) (after : List ℕ) → x ≡ y → Wrote (value (settled_memory p ks i j y m)) m v after
    → Wrote (value (settled_memory p ks i j x m)) m v after
settled-as m p ks i j x y v after e w = subst (λ (b : Bool). Wrote (value (settled_memory p ks i j b m)) m v after) (sym e) w

module _ (m : List ℕ) (p i j : ℕ) (list : NodeChildren) (e : is_list m p ≡ true) (f : list ≡ list_of (children_of m p)) (h : i < j) (k : j < list.len)
    (r : Ready m p (slot_in (kids list) i) (slot_in (kids list) j)) where
  abbrev ks : List Kid
  ks = kids list

  ks-are : ks ≡ children_of m p
  ks-are = ap kids f ∙ kids-of (children_of m p)

  ks-length : length ks ≡ list.len
  unfolding list_of
  ks-length = ap length ks-are ∙ sym (ap (λ (c : NodeChildren). c.len) f)

  len_is : list.len ≡ len_of m p
  len_is = sym ks-length ∙ ap length ks-are ∙ children-length m p e

  -- ── merged ──

  abbrev less : List Kid
  less = without j ks

  less-length : length less ≡ list.len - 1
  less-length =
      omega (arith, length-append (take j ks) (drop (j + 1) ks), length-take-le j ks (omega (arith, ks-length)), length-drop (j + 1) ks, ks-length)

  less-at : slot_in less i ≡ slot_in ks i
  less-at =
      ap (λ (x : Kid). x.slot)
      (get_or-append (take j ks) (drop (j + 1) ks) no_kid i (omega (arith, length-take-le j ks (omega (arith, ks-length)))) ∙ get_or-take j ks i no_kid h)

  removed-is : removed list j ≡ value (get_or ks j no_kid, list_of less)
  removed-is = removed-done list j (omega arith) k (omega (arith, len_is, (list-says m p e).2))

  module _ (t : Taken) (taking : Taking (removed list j) list t) where
    pub removed-never : {X : Type 0} (q : Refusal) → t.verdict ≡ Err q → X
    removed-never {X} q f = never-refused q t.verdict tt (taking.answered ∙ ap (mapped (λ x. tt)) removed-is) f

    left-list : t.list ≡ list_of less
    left-list = taking.list ∙ ap (λ (o : Outcome (Kid × NodeChildren)). kept list (mapped (λ x. x.1) o)) removed-is

    left-len : t.list.len ≡ length less
    unfolding list_of
    left-len = ap (λ (c : NodeChildren). c.len) left-list

    small : t.list.len ≤ 16
    small = omega (arith, left-len, less-length, len_is, (list-says m p e).2)

    module _ (v : Answer (Unit {0})) (l : List ℕ) (wrote : Wrote (stored m p t.list) m v l × Fitted v t.list.arr) where
      abbrev c : NodeChildren
      c = t.list

      put : (outcome v ≡ value tt) × (l ≡ list_put m p c) × Fitting c.arr
      put = list-stored m p c v l (not-outside m p (list-says m p e).0) small wrote

      pub stored-never : {X : Type 0} (q : Refusal) → v ≡ Err q → X
      stored-never {X} q f = never-refused q v tt put.0 f

      pub settle-merged : (w : Answer (Unit {0})) (after : List ℕ) → Wrote (updated l p i) l w after → Wrote (value (renewed (list_put m p (list_of less)) p i)) m w after
      settle-merged w after update =
          let s = list-says m p e in
          let six = put.2.sixteen in
          let mem = put.1 in
          let a = slot_in ks i in
          let isl : is_list l p ≡ true = ap (λ (y : List ℕ). is_list y p) mem ∙ list_put_lem m p c s.0 small six in
          let len : len_of l p ≡ list.len - 1 = ap (λ (y : List ℕ). len_of y p) mem ∙ list-len m p c s.0 small six ∙ left-len ∙ less-length in
          let sl : slot_at l p i ≡ a =
          sym (slot-at l p i (omega (arith, len)))
          ∙ ap (λ (y : List ℕ). slot_in (children_of y p) i) mem
          ∙ ap (λ (y : List Kid). slot_in y i) (list-children m p c s.0 small six put.2 ∙ ap kids left-list ∙ kids-of less)
          ∙ less-at in
          let other : a ≡ p → ⊥ = λ z. eqb-false p a r.first (sym z) in
          let cs = counted_same l m a (ap (λ (y : List ℕ). slot_of y a) mem ∙ list-others m p c s.0 small six a other) (ap length mem ∙ list-size m p c s.0 small six) r.left-counts in
          let u = update-is l p i w after isl (omega (arith, len)) (counted-at l (slot_at l p i) a sl cs) update in
          record { answered = u.answered; memory = u.memory ∙ ap (λ (y : List ℕ). renewed y p i) (mem ∙ ap (λ (y : NodeChildren). list_put m p y) left-list) }

  -- ── distributed ──

  at : (n : ℕ) → n < len_of m p → slot_at m p n ≡ slot_in ks n
  at n g = sym (slot-at m p n g) ∙ ap (λ (y : List Kid). slot_in y n) (sym ks-are)

  module _ (v : Answer (Unit {0})) (l : List ℕ) (one : Wrote (updated m p i) m v l) where
    first : Wrote (value (renewed m p i)) m v l
    first = update-is m p i v l e (omega (arith, len_is)) (counted-at m (slot_at m p i) (slot_in ks i) (at i (omega (arith, len_is))) r.left-counts) one

    pub updated-never : {X : Type 0} (q : Refusal) → v ≡ Err q → X
    updated-never {X} q f = never-refused q v tt first.answered f

    pub settle-shared : (w : Answer (Unit {0})) (after : List ℕ) → Wrote (updated l p j) l w after → Wrote (value (renewed (renewed m p i) p j)) m w after
    settle-shared w after two =
        let s = list-says m p e in
        let b = slot_in ks j in
        let mem : l ≡ renewed m p i = first.memory in
        let k16 : i < 16 = omega (arith, s.2, len_is) in
        let isl : is_list l p ≡ true = ap (λ (y : List ℕ). is_list y p) mem ∙ renewed-list m p i e k16 in
        let len : len_of l p ≡ len_of m p = ap (λ (y : List ℕ). len_of y p) mem ∙ renewed-len m p i e k16 in
        let sl : slot_at l p j ≡ b =
        ap (λ (y : List ℕ). slot_at y p j) mem
        ∙ ap (λ (x : Kid). x.slot) (entry-stays m p i j (new m p i e k16) s.0 k16 (omega (arith, s.2, len_is)) (λ z. omega arith))
        ∙ at j (omega (arith, len_is)) in
        let other : b ≡ p → ⊥ = λ z. eqb-false p b r.second (sym z) in
        let cs = counted_same l m b (ap (λ (y : List ℕ). slot_of y b) mem ∙ kid-others m p i (new m p i e k16) s.0 k16 b other) (ap length mem ∙ renewed-size m p i e k16) r.right-counts in
        let u = update-is l p j w after isl (omega (arith, len, len_is)) (counted-at l (slot_at l p j) b sl cs) two in
        record { answered = u.answered; memory = u.memory ∙ ap (λ (y : List ℕ). renewed y p j) mem }
