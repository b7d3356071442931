-- From the tests of the code to the rules of `Calls`, and how a promise is met.
use Rattle.std.specs.Prelude.{Ok, Err}
use mathlib.Core.Path.{◌≡◌, refl, sym, ap, ◌∙◌, subst}
use mathlib.Core.Bool.{Bool, true, false, ◌||◌}
use mathlib.Core.List.{[], ◌∷◌, ◌++◌}
use Prim.Native.Nat.{ℕ, ◌+◌, ◌-◌, ◌≤◌, ◌<◌}
use native.Mathlib.Omega.{arith}
use lib.Dec.{eqb, leb}
use lib.ListN.{take, get_or}
use borrow.Author.Tests.{lt-ltb, le-ltb, le-leb, lt-leb, eq-eqb, ne_eqb}
use Rattle.plain.specs.Outcome.{Outcome, Outcome.value, Outcome.refused, ruled, past, kept, mapped}
use Rattle.plain.proofs.Logic.{or_left, or_right, or-none}
use Rattle.plain.proofs.Outcome.{rule-applies, rule-passed, one-applies, one-passed}
use Rattle.answer.specs.Answers.{refusal_number}
use Rattle.answer.specs.declared.Refusal.{Refusal}
use Rattle.pool.specs.declared.Kid.{Kid}
use Rattle.node_children.specs.declared.NodeChildren.{NodeChildren}
use Rattle.node_children.specs.declared.Taken.{Taken}
use Rattle.node_children.specs.declared.Two.{Two}
use Rattle.pool.specs.Slot.{no_kid}
use Rattle.node_children.specs.Kids.{kids, list_of, Listing, Taking, Parting}
use Rattle.node_children.specs.Calls.{with_kid, without, cut_at, halves, pushed, popped, inserted, removed, split_off, pushed_split, inserted_split, distributed}

-- ── a promise met ──

module _ (o : Outcome NodeChildren) (before : NodeChildren) where
  pub listing-refused : (r : Refusal) → o ≡ refused (refusal_number r) → Listing o before (record { verdict = Err r; list = before })
  listing-refused r e = record { answered = ap (mapped (λ _. tt)) (sym e); list = ap (kept before) (sym e) }

  pub listing-done : (l m : NodeChildren) → o ≡ value l → m ≡ l → Listing o before (record { verdict = (Ok tt); list = m })
  listing-done l m e f = record { answered = ap (mapped (λ _. tt)) (sym e); list = f ∙ ap (kept before) (sym e) }

module _ (o : Outcome (Kid × NodeChildren)) (before : NodeChildren) where
  pub taking-same : (p : Outcome (Kid × NodeChildren)) (r : Taken) → o ≡ p → Taking p before r → Taking o before r
  taking-same p r e t = subst (λ (q : Outcome (Kid × NodeChildren)). Taking q before r) (sym e) t

  pub taking-done : (k j : Kid) (l m : NodeChildren) → o ≡ value (k, l) → j ≡ k → m ≡ l → Taking o before (record { verdict = (Ok tt); kid = j; list = m })
  taking-done k j l m e f g = taking-same (value (k, l)) (record { verdict = (Ok tt); kid = j; list = m }) e (record { answered = refl; kid = f; list = g })

module _ (o : Outcome (NodeChildren × NodeChildren)) (left right : NodeChildren) where
  pub parting-same : (p : Outcome (NodeChildren × NodeChildren)) (r : Two) → o ≡ p → Parting p left right r → Parting o left right r
  parting-same p r e t = subst (λ (q : Outcome (NodeChildren × NodeChildren)). Parting q left right r) (sym e) t

  pub parting-refused : (r : Refusal) → o ≡ refused (refusal_number r) → Parting o left right (record { verdict = Err r; left = left; right = right })
  parting-refused r e = parting-same (refused (refusal_number r)) (record { verdict = Err r; left = left; right = right }) e (record { answered = refl; left-list = refl; right-list = refl })

  pub parting-done : (k j l m : NodeChildren) → o ≡ value (k, l) → j ≡ k → m ≡ l → Parting o left right (record { verdict = (Ok tt); left = j; right = m })
  parting-done k j l m e f g = parting-same (value (k, l)) (record { verdict = (Ok tt); left = j; right = m }) e (record { answered = refl; left-list = f; right-list = g })

-- of an accepted call what was given does not matter
pub parting-given : (p : NodeChildren × NodeChildren) (left right l m : NodeChildren) (r : Two) → Parting (value p) l m r → Parting (value p) left right r
parting-given p left right l m r t = record { answered = t.answered; left-list = t.left-list; right-list = t.right-list }

-- ── the tests ──

pub none-yes : (n : ℕ) → n ≡ 0 → eqb n 0 ≡ true
none-yes n e = eq-eqb n 0 e

pub none-no : (n : ℕ) → 0 < n → eqb n 0 ≡ false
none-no n h = ne_eqb n 0 (λ e. omega arith)

pub past-yes : (i n : ℕ) → n < i → past i n ≡ true
past-yes i n h = lt-ltb n i h

pub past-no : (i n : ℕ) → i ≤ n → past i n ≡ false
past-no i n h = le-ltb n i h

-- ── two rules and three ──

module _ {A : Type 0} (n m : ℕ) (s t : Bool) (a : A) where
  pub two-second : s ≡ false → t ≡ true → ruled ((n, s) ∷ (m, t) ∷ []) a ≡ refused m
  two-second e f = rule-passed n s ((m, t) ∷ []) a e ∙ one-applies m t a f

  pub two-passed : s ≡ false → t ≡ false → ruled ((n, s) ∷ (m, t) ∷ []) a ≡ value a
  two-passed e f = rule-passed n s ((m, t) ∷ []) a e ∙ one-passed m t a f

module _ {A : Type 0} (n m k : ℕ) (s t u : Bool) (a : A) (e : s ≡ false) where
  pub three-second : t ≡ true → ruled ((n, s) ∷ (m, t) ∷ (k, u) ∷ []) a ≡ refused m
  three-second f = rule-passed n s ((m, t) ∷ (k, u) ∷ []) a e ∙ rule-applies m t ((k, u) ∷ []) a f

  pub three_third : t ≡ false → u ≡ true → ruled ((n, s) ∷ (m, t) ∷ (k, u) ∷ []) a ≡ refused k
  three_third f g = rule-passed n s ((m, t) ∷ (k, u) ∷ []) a e ∙ two-second m k t u a f g

  pub three-passed : t ≡ false → u ≡ false → ruled ((n, s) ∷ (m, t) ∷ (k, u) ∷ []) a ≡ value a
  three-passed f g = rule-passed n s ((m, t) ∷ (k, u) ∷ []) a e ∙ two-passed m k t u a f g

-- ── the calls ──

module _ (c : NodeChildren) where
  module _ (k : Kid) where
    pub pushed-full : 16 ≤ c.len → pushed c k ≡ refused 11
    unfolding pushed
    pushed-full h = one-applies 11 (past (c.len + 1) 16) (list_of (kids c ++ (k ∷ []))) (past-yes (c.len + 1) 16 (omega arith))

    pub pushed-done : c.len < 16 → pushed c k ≡ value (list_of (kids c ++ (k ∷ [])))
    unfolding pushed
    pushed-done h = one-passed 11 (past (c.len + 1) 16) (list_of (kids c ++ (k ∷ []))) (past-no (c.len + 1) 16 (omega arith))

    pub push-split-none : c.len ≡ 0 → pushed_split c k ≡ refused 12
    unfolding pushed_split
    push-split-none h = rule-applies 12 (eqb c.len 0) ((11, past c.len 16) ∷ []) (halves (kids c ++ (k ∷ []))) (none-yes c.len h)

    pub push-split-long : 16 < c.len → pushed_split c k ≡ refused 11
    unfolding pushed_split
    push-split-long h = two-second 12 11 (eqb c.len 0) (past c.len 16) (halves (kids c ++ (k ∷ []))) (none-no c.len (omega arith)) (past-yes c.len 16 h)

    pub push-split-done : 0 < c.len → c.len ≤ 16 → pushed_split c k ≡ value (halves (kids c ++ (k ∷ [])))
    unfolding pushed_split
    push-split-done g h = two-passed 12 11 (eqb c.len 0) (past c.len 16) (halves (kids c ++ (k ∷ []))) (none-no c.len g) (past-no c.len 16 h)

  pub popped-none : c.len ≡ 0 → popped c ≡ refused 12
  unfolding popped
  popped-none h = rule-applies 12 (eqb c.len 0) ((11, past c.len 16) ∷ []) (get_or (kids c) (c.len - 1) no_kid, list_of (take (c.len - 1) (kids c))) (none-yes c.len h)

  pub popped-long : 16 < c.len → popped c ≡ refused 11
  unfolding popped
  popped-long h =
      two-second 12 11 (eqb c.len 0) (past c.len 16) (get_or (kids c) (c.len - 1) no_kid, list_of (take (c.len - 1) (kids c))) (none-no c.len (omega arith))
      (past-yes c.len 16 h)

  pub popped-done : 0 < c.len → c.len ≤ 16 → popped c ≡ value (get_or (kids c) (c.len - 1) no_kid, list_of (take (c.len - 1) (kids c)))
  unfolding popped
  popped-done g h =
      two-passed 12 11 (eqb c.len 0) (past c.len 16) (get_or (kids c) (c.len - 1) no_kid, list_of (take (c.len - 1) (kids c))) (none-no c.len g)
      (past-no c.len 16 h)

  module _ (i : ℕ) where
    pub split-past : c.len < i → split_off c i ≡ refused 3
    unfolding split_off
    split-past h = rule-applies 3 (past i c.len) ((11, past c.len 16) ∷ []) (cut_at i (kids c)) (past-yes i c.len h)

    pub split-long : i ≤ c.len → 16 < c.len → split_off c i ≡ refused 11
    unfolding split_off
    split-long g h = two-second 3 11 (past i c.len) (past c.len 16) (cut_at i (kids c)) (past-no i c.len g) (past-yes c.len 16 h)

    pub split_done : i ≤ c.len → c.len ≤ 16 → split_off c i ≡ value (cut_at i (kids c))
    unfolding split_off
    split_done g h = two-passed 3 11 (past i c.len) (past c.len 16) (cut_at i (kids c)) (past-no i c.len g) (past-no c.len 16 h)

    pub removed-none : c.len ≡ 0 → removed c i ≡ refused 12
    unfolding removed
    removed-none h = rule-applies 12 (eqb c.len 0) ((3, leb c.len i) ∷ (11, past c.len 16) ∷ []) (get_or (kids c) i no_kid, list_of (without i (kids c))) (none-yes c.len h)

    module _ (some : 0 < c.len) where
      pub removed-past : c.len ≤ i → removed c i ≡ refused 3
      unfolding removed
      removed-past h =
          three-second 12 3 11 (eqb c.len 0) (leb c.len i) (past c.len 16) (get_or (kids c) i no_kid, list_of (without i (kids c))) (none-no c.len some)
          (le-leb c.len i h)

      pub removed-long : i < c.len → 16 < c.len → removed c i ≡ refused 11
      unfolding removed
      removed-long g h =
          three_third 12 3 11 (eqb c.len 0) (leb c.len i) (past c.len 16) (get_or (kids c) i no_kid, list_of (without i (kids c))) (none-no c.len some)
          (lt-leb c.len i g) (past-yes c.len 16 h)

      pub removed-done : i < c.len → c.len ≤ 16 → removed c i ≡ value (get_or (kids c) i no_kid, list_of (without i (kids c)))
      unfolding removed
      removed-done g h =
          three-passed 12 3 11 (eqb c.len 0) (leb c.len i) (past c.len 16) (get_or (kids c) i no_kid, list_of (without i (kids c))) (none-no c.len some)
          (lt-leb c.len i g) (past-no c.len 16 h)

    module _ (k : Kid) where
      pub inserted-past : c.len < i → inserted c i k ≡ refused 3
      unfolding inserted
      inserted-past h = rule-applies 3 (past i c.len) ((11, past (c.len + 1) 16) ∷ []) (list_of (with_kid i k (kids c))) (past-yes i c.len h)

      pub inserted-full : i ≤ c.len → 16 ≤ c.len → inserted c i k ≡ refused 11
      unfolding inserted
      inserted-full g h = two-second 3 11 (past i c.len) (past (c.len + 1) 16) (list_of (with_kid i k (kids c))) (past-no i c.len g) (past-yes (c.len + 1) 16 (omega arith))

      pub inserted-done : i ≤ c.len → c.len < 16 → inserted c i k ≡ value (list_of (with_kid i k (kids c)))
      unfolding inserted
      inserted-done g h = two-passed 3 11 (past i c.len) (past (c.len + 1) 16) (list_of (with_kid i k (kids c))) (past-no i c.len g) (past-no (c.len + 1) 16 (omega arith))

      pub insert-split-none : c.len ≡ 0 → inserted_split c i k ≡ refused 12
      unfolding inserted_split
      insert-split-none h = rule-applies 12 (eqb c.len 0) ((3, past i c.len) ∷ (11, past c.len 16) ∷ []) (halves (with_kid i k (kids c))) (none-yes c.len h)

      module _ (some : 0 < c.len) where
        pub insert-split-past : c.len < i → inserted_split c i k ≡ refused 3
        unfolding inserted_split
        insert-split-past h =
            three-second 12 3 11 (eqb c.len 0) (past i c.len) (past c.len 16) (halves (with_kid i k (kids c))) (none-no c.len some) (past-yes i c.len h)

        pub insert-split-long : i ≤ c.len → 16 < c.len → inserted_split c i k ≡ refused 11
        unfolding inserted_split
        insert-split-long g h =
            three_third 12 3 11 (eqb c.len 0) (past i c.len) (past c.len 16) (halves (with_kid i k (kids c))) (none-no c.len some) (past-no i c.len g)
            (past-yes c.len 16 h)

        pub insert-split-done : i ≤ c.len → c.len ≤ 16 → inserted_split c i k ≡ value (halves (with_kid i k (kids c)))
        unfolding inserted_split
        insert-split-done g h =
            three-passed 12 3 11 (eqb c.len 0) (past i c.len) (past c.len 16) (halves (with_kid i k (kids c))) (none-no c.len some) (past-no i c.len g)
            (past-no c.len 16 h)

module _ (a b : NodeChildren) where
  pub distributed-left : 16 < a.len → distributed a b ≡ refused 11
  unfolding distributed
  distributed-left h =
      one-applies 11 (past a.len 16 || past b.len 16) (halves (kids a ++ kids b)) (or_left (past a.len 16) (past b.len 16) (past-yes a.len 16 h))

  pub distributed-right : 16 < b.len → distributed a b ≡ refused 11
  unfolding distributed
  distributed-right h =
      one-applies 11 (past a.len 16 || past b.len 16) (halves (kids a ++ kids b)) (or_right (past a.len 16) (past b.len 16) (past-yes b.len 16 h))

  pub distributed-done : a.len ≤ 16 → b.len ≤ 16 → distributed a b ≡ value (halves (kids a ++ kids b))
  unfolding distributed
  distributed-done g h =
      one-passed 11 (past a.len 16 || past b.len 16) (halves (kids a ++ kids b))
      (or-none (past a.len 16) (past b.len 16) (past-no a.len 16 g) (past-no b.len 16 h))
