-- The paths of `compact_leaves`: what each comes to.
use Rattle.std.specs.Prelude.{Ok, Err}
use mathlib.Core.Path.{◌≡◌, refl, sym, ap, subst, ◌∙◌}
use mathlib.Core.Bool.{Bool, true, false, not, ◌&&◌, cond, true≢false}
use mathlib.Core.List.{List, []}
use Prim.Native.Nat.{ℕ, ◌≤◌, ◌<◌}
use native.Mathlib.Omega.{arith}
use lib.Dec.{ltb}
use lib.ListN.{get_or}
use borrow.Author.Tests.{lt-ltb, le-ltb}
use Rattle.plain.specs.Outcome.{Outcome, Outcome.value, Outcome.refused, ruled, kept, mapped}
use Rattle.plain.proofs.Logic.{and_none}
use Rattle.plain.proofs.Outcome.{one-passed, Known, known}
use Rattle.answer.specs.Answers.{refusal_number, Answer, outcome}
use Rattle.answer.specs.declared.Refusal.{Refusal}
use Rattle.answer.proofs.Opened.{never-refused}
use Rattle.pool.specs.declared.Kid.{Kid}
use Rattle.pool.specs.Slot.{no_kid, len_of}
use Rattle.pool.specs.Calls.{Wrote}
use Rattle.node_children.specs.declared.Listed.{Listed}
use Rattle.node_children.specs.Kids.{kids, list_of, Listing}
use Rattle.nodes.specs.Node.{is_leaf, is_list, children_of}
use Rattle.nodes.specs.Calls.{loaded}
use Rattle.child_info.specs.Kin.{slots_of, slot_in, among}
use Rattle.child_info.specs.Leaves.{AllLeaves}
use Rattle.child_info.specs.Calls.{all_rules}
use Rattle.compact.specs.Pack.{compacted_kids, compacted}
use Rattle.child_info.proofs.Rules.{children-length}
use Rattle.child_info.proofs.Found.{first_leaf, AllFound, all_found}
use Rattle.compact.proofs.Loops.{kid-read}
use Rattle.compact.proofs.Packing.{kids-are, list-len-is}

either : {A B : Type 0} (t : Bool) → (t ≡ true → A) → (t ≡ false → B) → (A → ⊥) → (B → ⊥) → ⊥
either true f g x y = x (f refl)
either false f g x y = y (g refl)

-- what an accepted call leaves
abbrev pub left : List ℕ → ℕ → List ℕ
left m p = cond (is_leaf m (slot_in (children_of m p) 0) && ltb 1 (len_of m p)) (compacted_kids m p (children_of m p)) m

module _ (m : List ℕ) (p : ℕ) (r : Answer (Unit {0})) (promise : outcome r ≡ ruled (all_rules m p) tt) where
  pub call-refused : (q : Refusal) → r ≡ Err q → Wrote (compacted m p) m r m
  unfolding compacted
  call-refused q e =
      let k : ruled (all_rules m p) (left m p) ≡ refused (refusal_number q) = subst (λ (o : Outcome _). Known (all_rules m p) tt (left m p) o) (sym promise ∙ ap outcome e) (known (all_rules m p) tt (left m p)) in
      record { answered = ap outcome e ∙ ap (mapped (λ (x : List ℕ). tt)) (sym k); memory = ap (kept m) (sym k) }

  module _ (yes : r ≡ (Ok tt)) where
    pub found : AllFound m p
    found = all_found m p (sym promise ∙ ap outcome yes)

    pub call-accepted : compacted m p ≡ value (left m p)
    unfolding compacted
    call-accepted = (subst (λ (o : Outcome _). Known (all_rules m p) tt (left m p) o) (sym promise ∙ ap outcome yes) (known (all_rules m p) tt (left m p))).1

    call-wrote : (l : List ℕ) → l ≡ left m p → Wrote (compacted m p) m (Ok tt) l
    call-wrote l e = record { answered = ap (mapped (λ (x : List ℕ). tt)) (sym call-accepted); memory = e ∙ ap (kept m) (sym call-accepted) }

    module _ (d : Listed) (read : Listing (loaded m p) (list_of []) d) where
      loaded-is : loaded m p ≡ value (list_of (children_of m p))
      unfolding loaded
      loaded-is = one-passed 2 (not (is_list m p)) (list_of (children_of m p)) (ap not found.list)

      pub load-never : {X : Type 0} (q : Refusal) → d.verdict ≡ Err q → X
      load-never {X} q e = never-refused q d.verdict tt (read.answered ∙ ap (mapped (λ x. tt)) loaded-is) e

      pub list-is : d.list ≡ list_of (children_of m p)
      list-is = read.list ∙ ap (kept (list_of [])) loaded-is

      len_is : d.list.len ≡ len_of m p
      len_is = list-len-is m p d.list found.list list-is

      -- one child
      pub call-short : d.list.len < 2 → Wrote (compacted m p) m (Ok tt) m
      call-short h =
          let e : (is_leaf m (slot_in (children_of m p) 0) && ltb 1 (len_of m p)) ≡ false =
          ap (λ (t : Bool). is_leaf m (slot_in (children_of m p) 0) && t) (le-ltb 1 (len_of m p) (omega (arith, len_is))) ∙ and_none (is_leaf m (slot_in (children_of m p) 0)) in
          call-wrote m (sym (ap (λ (t : Bool). cond t (compacted_kids m p (children_of m p)) m) e))

      module _ (more : 2 ≤ d.list.len) (s : ℕ) (at : s ≡ (get_or d.list.arr 0 no_kid).slot) where
        slot_is : s ≡ slot_in (children_of m p) 0
        slot_is =
            at ∙ ap (λ (k : Kid). k.slot) (kid-read d.list 0 (omega arith)) ∙ ap (λ (ks : List Kid). slot_in ks 0) (kids-are m p d.list found.list list-is)

        -- the first child is a node
        pub some-node : is_leaf m s ≡ false → is_list m s ≡ false → ⊥
        some-node f g =
            either _ found.leaves found.lists
            (λ (x : AllLeaves m (children_of m p)).
            true≢false (sym (x.each 0 (omega (arith, children-length m p found.list, found.some))).leaf ∙ sym (ap (is_leaf m) slot_is) ∙ f))
            (λ (x : (i : ℕ) → i < len_of m p → is_list m (slot_in (children_of m p) i) ≡ true). true≢false (sym (x 0 found.some) ∙ sym (ap (is_list m) slot_is) ∙ g))

        -- children that are lists
        pub call-lists : is_leaf m s ≡ false → Wrote (compacted m p) m (Ok tt) m
        call-lists f =
            let e : (is_leaf m (slot_in (children_of m p) 0) && ltb 1 (len_of m p)) ≡ false =
            ap (λ (t : Bool). t && ltb 1 (len_of m p)) (sym (ap (is_leaf m) slot_is) ∙ f) in
            call-wrote m (sym (ap (λ (t : Bool). cond t (compacted_kids m p (children_of m p)) m) e))

        module _ (leaf : is_leaf m s ≡ true) where
          first : is_leaf m (slot_in (children_of m p) 0) ≡ true
          first = sym (ap (is_leaf m) slot_is) ∙ leaf

          all : AllLeaves m (children_of m p)
          all = found.leaves (first_leaf m (children_of m p) (omega (arith, len_is, children-length m p found.list)) first)

          -- leaves
          pub may-compact : (is_list m p ≡ true) × (d.list ≡ list_of (children_of m p)) × (0 < d.list.len) × AllLeaves m (kids d.list) × (among p (slots_of (kids d.list)) ≡ false)
          may-compact =
              let k = kids-are m p d.list found.list list-is in (
                found.list,
                list-is,
                omega arith,
                subst (λ (ks : List Kid). AllLeaves m ks) (sym k) all,
                ap (λ (ks : List Kid). among p (slots_of ks)) k ∙ found.other,
              )

          pub call-leaves : (v : Answer (Unit {0})) (l : List ℕ) → Wrote (value (compacted_kids m p (children_of m p))) m v l → Wrote (compacted m p) m v l
          call-leaves v l w =
              let f : (is_leaf m (slot_in (children_of m p) 0) && ltb 1 (len_of m p)) ≡ true = rw (first, lt-ltb 1 (len_of m p) (omega (arith, len_is))) in
              let o : compacted m p ≡ value (compacted_kids m p (children_of m p)) = call-accepted ∙ ap (λ (t : Bool). value (cond t (compacted_kids m p (children_of m p)) m)) f in
              subst (λ (x : Outcome (List ℕ)). Wrote x m v l) (sym o) w
