-- What kind of node a slot holds: from the tests of `Node` to facts and back, and what an answer of `head_of` says of it.
use Rattle.std.specs.Prelude.{Ok, Err}
use mathlib.Core.Path.{◌≡◌, refl, sym, ap, ◌∙◌}
use mathlib.Core.Bool.{Bool, true, false, not, ◌&&◌, ◌||◌, true≢false}
use mathlib.Core.List.{List, [], ◌∷◌}
use Prim.Native.Nat.{ℕ, ◌+◌, ◌≤◌}
use native.Mathlib.Omega.{arith}
use lib.Dec.{eqb, leb}
use lib.ListN.{length}
use borrow.Author.Tests.{ltb-false, le-ltb, leb-true, le-leb, eqb-true, eq-eqb, not-true}
use Rattle.plain.specs.Outcome.{Outcome.refused, ruled}
use Rattle.plain.proofs.Logic.{and_left, and_right}
use Rattle.answer.specs.Answers.{refusal_number, Answer}
use Rattle.answer.specs.declared.Refusal.{Refusal}
use Rattle.pool.specs.declared.Head.{Head}
use Rattle.pool.specs.declared.Head.TheVariants as Head·case
use Rattle.pool.specs.Slot.{slot_start, kind_of, len_of, next_of}
use Rattle.pool.specs.Calls.{outside, Held.free, Held.leaf, Held.list, held, held_by, wrong_head, head_of}
use Rattle.pool.proofs.Opened.{head_opened}
use Rattle.nodes.specs.Node.{is_leaf, is_list}

-- a test that holds in no case
pub not_so : (t : Bool) → (t ≡ true → ⊥) → t ≡ false
not_so true f = absurd (f refl)
not_so false f = refl

-- a rule that refused: it applied
pub one-refused : {A : Type 0} (n : ℕ) (t : Bool) (a : A) (k : ℕ) → refused k ≡ ruled ((n, t) ∷ []) a → (t ≡ true) × (k ≡ n)
unfolding ruled
one-refused n true a k e = (refl, (let z : k ≡ n = cc in z))
one-refused n false a k e = absurd (let z : ◌≡◌ {A = ℕ} 0 1 = cc in omega arith)

module _ (m : List ℕ) (s : ℕ) where
  pub inside : outside m s ≡ false → slot_start s + 640 ≤ length m
  inside e = ltb-false (length m) (slot_start s + 640) e

  pub not-outside : slot_start s + 640 ≤ length m → outside m s ≡ false
  not-outside h = le-ltb (length m) (slot_start s + 640) h

  -- ── a leaf ──

  pub leaf-says : is_leaf m s ≡ true → (slot_start s + 640 ≤ length m) × (kind_of m s ≡ 1) × (len_of m s ≤ 512)
  unfolding is_leaf
  leaf-says e =
      let r = and_right (not (outside m s)) (eqb (kind_of m s) 1 && leb (len_of m s) 512) e in
      (inside (not-true _ (and_left (not (outside m s)) _ e)), eqb-true (kind_of m s) 1 (and_left _ _ r), leb-true (len_of m s) 512 (and_right (eqb (kind_of m s) 1) _ r))

  pub leaf-is : slot_start s + 640 ≤ length m → kind_of m s ≡ 1 → len_of m s ≤ 512 → is_leaf m s ≡ true
  unfolding is_leaf
  leaf-is h k l = rw (not-outside h, eq-eqb (kind_of m s) 1 k, le-leb (len_of m s) 512 l)

  -- ── a list ──

  pub list-says : is_list m s ≡ true → (slot_start s + 640 ≤ length m) × (kind_of m s ≡ 2) × (len_of m s ≤ 16)
  unfolding is_list
  list-says e =
      let r = and_right (not (outside m s)) (eqb (kind_of m s) 2 && leb (len_of m s) 16) e in
      (inside (not-true _ (and_left (not (outside m s)) _ e)), eqb-true (kind_of m s) 2 (and_left _ _ r), leb-true (len_of m s) 16 (and_right (eqb (kind_of m s) 2) _ r))

  pub list-is : slot_start s + 640 ≤ length m → kind_of m s ≡ 2 → len_of m s ≤ 16 → is_list m s ≡ true
  unfolding is_list
  list-is h k l = rw (not-outside h, eq-eqb (kind_of m s) 2 k, le-leb (len_of m s) 16 l)

  -- ── and not the other ──

  pub no-leaf-kind : (kind_of m s ≡ 1 → ⊥) → is_leaf m s ≡ false
  no-leaf-kind f = not_so (is_leaf m s) (λ e. f (leaf-says e).1)

  pub no-list-kind : (kind_of m s ≡ 2 → ⊥) → is_list m s ≡ false
  no-list-kind f = not_so (is_list m s) (λ e. f (list-says e).1)

  pub leaf-no-list : is_leaf m s ≡ true → is_list m s ≡ false
  leaf-no-list e = no-list-kind (λ k. let l = (leaf-says e).1 in omega arith)

  pub list-no-leaf : is_list m s ≡ true → is_leaf m s ≡ false
  list-no-leaf e = no-leaf-kind (λ k. let l = (list-says e).1 in omega arith)

  -- ── what `head_of` answered ──

  module _ (r : Answer Head) (promise : held r ≡ head_of m s) where
    pub head-leaf : (n : ℕ) → r ≡ Ok (Head·case.Leaf n) → (is_leaf m s ≡ true) × (len_of m s ≡ n) × (n ≤ 512)
    head-leaf n e =
        let o = head_opened r m s (leaf n) promise (ap held e) in
        let f = o.1 in
        (leaf-is o.0 f.0 (omega arith), f.1, f.2)

    pub head-list : (n : ℕ) → r ≡ Ok (Head·case.List n) → (is_list m s ≡ true) × (len_of m s ≡ n) × (n ≤ 16)
    head-list n e =
        let o = head_opened r m s (list n) promise (ap held e) in
        let f = o.1 in
        (list-is o.0 f.0 (omega arith), f.1, f.2)

    pub head-free : (n : ℕ) → r ≡ Ok (Head·case.Free n) → (is_leaf m s ≡ false) × (is_list m s ≡ false) × (kind_of m s ≡ 0) × (next_of m s ≡ n)
    head-free n e =
        let o = head_opened r m s (free n) promise (ap held e) in
        let k = o.1.0 in
        (no-leaf-kind (λ l. omega arith), no-list-kind (λ l. omega arith), k, o.1.1)

    pub head-none : (q : Refusal) → r ≡ Err q → (is_leaf m s ≡ false) × (is_list m s ≡ false) × (refusal_number q ≡ 2)
    unfolding head_of
    head-none q e =
        let o = one-refused 2 (outside m s || wrong_head (kind_of m s) (len_of m s)) (held_by (kind_of m s) (len_of m s) (next_of m s)) (refusal_number q) (sym (ap held e) ∙ promise) in
        let leaf : is_leaf m s ≡ true → (outside m s || wrong_head (kind_of m s) (len_of m s)) ≡ false = λ t. let f = leaf-says t in rw (not-outside f.0, f.1, le-ltb 512 (len_of m s) f.2) in
        let list : is_list m s ≡ true → (outside m s || wrong_head (kind_of m s) (len_of m s)) ≡ false = λ t. let f = list-says t in rw (not-outside f.0, f.1, le-ltb 16 (len_of m s) f.2) in
        (not_so (is_leaf m s) (λ t. true≢false (sym o.0 ∙ leaf t)), not_so (is_list m s) (λ t. true≢false (sym o.0 ∙ list t)), o.1)

    -- a head that is none of a leaf, and none of a list
    pub head-no-leaf : (h : Head) → r ≡ Ok h → ((n : ℕ) → h ≡ Head·case.Leaf n → ⊥) → is_leaf m s ≡ false
    head-no-leaf (Head·case.Free n) e k = (head-free n e).0
    head-no-leaf (Head·case.Leaf n) e k = absurd (k n refl)
    head-no-leaf (Head·case.List n) e k = list-no-leaf (head-list n e).0

    pub head-no-list : (h : Head) → r ≡ Ok h → ((n : ℕ) → h ≡ Head·case.List n → ⊥) → is_list m s ≡ false
    head-no-list (Head·case.Free n) e k = (head-free n e).1
    head-no-list (Head·case.Leaf n) e k = leaf-no-list (head-leaf n e).0
    head-no-list (Head·case.List n) e k = absurd (k n refl)
