-- From the tests of the code to the rules of `Asked`, for two lists that are written.
use Rattle.std.specs.Prelude.{Ok, Err}
use mathlib.Core.Path.{◌≡◌, refl, sym, ap, subst, ◌∙◌}
use mathlib.Core.Bool.{Bool, true, false, ◌||◌, cond}
use mathlib.Core.List.{List, [], ◌∷◌}
use Prim.Native.Nat.{ℕ, ◌≤◌, ◌<◌}
use native.Mathlib.Omega.{arith}
use lib.Dec.{eqb}
use lib.ListN.{length}
use borrow.Author.Tests.{lt-ltb, le-ltb, ltb-false, eq-eqb, ne_eqb}
use Rattle.plain.specs.Outcome.{Outcome, Outcome.value, Outcome.refused, ruled, past, kept, mapped}
use Rattle.plain.proofs.Logic.{or_left, or_right, or-none, neither}
use Rattle.plain.proofs.Outcome.{rule-applies, rule-passed, one-applies, one-passed, accepted, known, Known}
use Rattle.answer.specs.Answers.{refusal_number, Answer, outcome}
use Rattle.answer.specs.declared.Refusal.{Refusal}
use Rattle.answer.proofs.Opened.{never-refused}
use Rattle.pool.specs.Calls.{outside, region_start, Wrote}
use Rattle.pool.proofs.Rules.{wrote-refused, wrote-done}
use Rattle.node_children.specs.declared.NodeChildren.{NodeChildren}
use Rattle.nodes.specs.Node.{list_put}
use Rattle.nodes.specs.Calls.{stored}
use Rattle.nodes.proofs.Heads.{inside, not-outside}
use Rattle.nodes.proofs.Laid.{region-outside, region-inside}
use Rattle.nodes.proofs.Put.{list-size}
use Rattle.nodes.proofs.Rules.{stored_is}
use Rattle.list_calls.specs.Asked.{and_then, no_other, placed, both_rules, both_stored, both}
use Rattle.list_calls.proofs.Opened.{bare, refused-so, then-refused}

-- ── a slot for a second list ──

module _ (m : List ℕ) (p q : ℕ) where
  pub other-same : p ≡ q → true ≡ no_other m p q
  other-same e = sym (or_left (eqb p q) (outside m q) (eq-eqb p q e))

  module _ (r : Answer ℕ) (h : outcome r ≡ region_start m q) where
    pub other-out : (n : Refusal) → r ≡ Err n → true ≡ no_other m p q
    other-out n e = sym (or_right (eqb p q) (outside m q) (region-outside r m q n h e).0)

    pub other-in : (a : ℕ) → (p ≡ q → ⊥) → r ≡ Ok a → false ≡ no_other m p q
    other-in a f e = sym (or-none (eqb p q) (outside m q) (ne_eqb p q f) (region-inside r m q a h e))

-- ── 12 before the 2 of that slot ──

module _ (v : Answer (Unit {0})) (t : Bool) where
  pub placed-as-was : t ≡ false → outcome v ≡ placed t (outcome v)
  unfolding placed
  placed-as-was e = sym (rw e)

  module _ (e : t ≡ true) where
    pub placed-lost : v ≡ (Ok tt) → refused 2 ≡ placed t (outcome v)
    unfolding placed
    placed-lost f = sym (rw (e, f))

    pub placed-twelve : (n : Refusal) (k : ℕ) → v ≡ Err n → k ≡ refusal_number n → k ≡ 12 → refused (refusal_number n) ≡ placed t (outcome v)
    unfolding placed
    placed-twelve n k f g h = sym (rw (e, f, eq-eqb (refusal_number n) 12 (sym g ∙ h)) (ap (λ (x : ℕ). refused x) (sym h ∙ g)))

    pub placed-other : (n : Refusal) (k : ℕ) → v ≡ Err n → k ≡ refusal_number n → (k ≡ 12 → ⊥) → refused 2 ≡ placed t (outcome v)
    unfolding placed
    placed-other n k f g h = sym (rw (e, f, ne_eqb (refusal_number n) 12 (λ z. h (g ∙ z))))

-- ── whether two lists may be written ──

module _ (m : List ℕ) (p q l r : ℕ) where
  -- the two tests of the rules
  abbrev lost : Bool
  lost = no_other m p q || outside m p

  abbrev long : Bool
  long = past l 16 || past r 16

  abbrev checked : Outcome (Unit {0})
  checked = ruled (both_rules m p q l r) tt

  both-lost : lost ≡ true → refused 2 ≡ checked
  both-lost e = sym (rule-applies 2 lost ((11, long) ∷ []) tt e)

  pub both-other : (t : Bool) → t ≡ no_other m p q → t ≡ true → refused 2 ≡ checked
  both-other t f e = both-lost (or_left (no_other m p q) (outside m p) (sym f ∙ e))

  module _ (n : Answer ℕ) (h : outcome n ≡ region_start m p) where
    pub both-outside : (k : Refusal) → n ≡ Err k → refused 2 ≡ checked
    both-outside k e = both-lost (or_right (no_other m p q) (outside m p) (region-outside n m p k h e).0)

    module _ (t : Bool) (f : t ≡ no_other m p q) (g : t ≡ false) (a : ℕ) (e : n ≡ Ok a) where
      there : lost ≡ false
      there = or-none (no_other m p q) (outside m p) (sym f ∙ g) (region-inside n m p a h e)

      both_long : long ≡ true → refused 11 ≡ checked
      both_long k = sym (rule-passed 2 lost ((11, long) ∷ []) tt there ∙ one-applies 11 long tt k)

      pub left-long : 16 < l → refused 11 ≡ checked
      left-long k = both_long (or_left (past l 16) (past r 16) (lt-ltb 16 l k))

      pub right-long : 16 < r → refused 11 ≡ checked
      right-long k = both_long (or_right (past l 16) (past r 16) (lt-ltb 16 r k))

      pub both-fit : l ≤ 16 → r ≤ 16 → value tt ≡ checked
      both-fit x y = sym (rule-passed 2 lost ((11, long) ∷ []) tt there ∙ one-passed 11 long tt (or-none (past l 16) (past r 16) (le-ltb 16 l x) (le-ltb 16 r y)))

-- ── two lists written ──

stored-so : (m : List ℕ) (s : ℕ) (c : NodeChildren) (v : Answer (Unit {0})) (after : List ℕ) → outside m s ≡ false → c.len ≤ 16 → Wrote (stored m s c) m v after
    → (outcome v ≡ value tt) × (after ≡ list_put m s c)
stored-so m s c v after e h w =
    let is = stored_is m s c (inside m s e) h in
    (w.answered ∙ ap (mapped (λ t. tt)) is, w.memory ∙ ap (λ (o : Outcome (List ℕ)). kept m o) is)

module _ (m : List ℕ) (p q : ℕ) (l r : NodeChildren) (v : Answer (Unit {0})) (promise : outcome v ≡ ruled (both_rules m p q l.len r.len) tt) where
  pub both-not : (n : Refusal) → v ≡ Err n → Wrote (both_stored m p q l r) m v m
  unfolding both_stored
  both-not n e =
      wrote-refused (both_stored m p q l r) m v (refusal_number n)
      (subst (Known (both_rules m p q l.len r.len) tt (list_put (list_put m p l) q r)) (sym promise ∙ ap outcome e)
      (known (both_rules m p q l.len r.len) tt (list_put (list_put m p l) q r)))
      (ap outcome e)

  module _ (e : v ≡ (Ok tt)) where
    rules : ((no_other m p q || outside m p) ≡ false) × ((past l.len 16 || past r.len 16) ≡ false)
    rules =
        let k = accepted 2 (no_other m p q || outside m p) ((11, past l.len 16 || past r.len 16) ∷ []) tt tt (sym promise ∙ ap outcome e) in
        (k.0, (accepted 11 (past l.len 16 || past r.len 16) [] tt tt k.1).0)

    lens : (l.len ≤ 16) × (r.len ≤ 16)
    lens = let s = neither (past l.len 16) (past r.len 16) rules.1 in (ltb-false 16 l.len s.0, ltb-false 16 r.len s.1)

    slots : (outside m p ≡ false) × (outside m q ≡ false)
    slots = let o = neither (no_other m p q) (outside m p) rules.0 in (o.1, (neither (eqb p q) (outside m q) o.0).1)

    -- the first one is not refused
    module _ (a : Answer (Unit {0})) (x : List ℕ) (w : Wrote (stored m p l) m a x) where
      pub first-never : {X : Type 0} (n : Refusal) → a ≡ Err n → X
      first-never {X} n f = never-refused n a tt (stored-so m p l a x slots.0 lens.0 w).0 f

      pub both-done : length l.arr ≡ 16 → (b : Answer (Unit {0})) (y : List ℕ) → Wrote (stored x q r) x b y → Wrote (both_stored m p q l r) m b y
      unfolding both_stored
      both-done n b y u =
          let f : x ≡ list_put m p l = (stored-so m p l a x slots.0 lens.0 w).1 in
          let size : length x ≡ length m = ap (λ (z : List ℕ). length z) f ∙ list-size m p l (inside m p slots.0) lens.0 n in
          let g = stored-so x q r b y (not-outside x q (omega (arith, inside m q slots.1))) lens.1 u in
          wrote-done (both_stored m p q l r) m b (list_put (list_put m p l) q r) y
          (rule-passed 2 (no_other m p q || outside m p) ((11, past l.len 16 || past r.len 16) ∷ []) (list_put (list_put m p l) q r) rules.0
          ∙ one-passed 11 (past l.len 16 || past r.len 16) (list_put (list_put m p l) q r) rules.1)
          g.0
          (g.1 ∙ ap (λ (z : List ℕ). list_put z q r) f)

-- ── a list parted ──

module _ (m : List ℕ) (p q : ℕ) (o : Outcome (NodeChildren × NodeChildren)) where
  abbrev parts : Outcome (List ℕ)
  parts = and_then (placed (no_other m p q) o) (both m p q)

  -- refused: 12 comes before the 2 of the second slot
  pub parted-stops : (u w : Answer (Unit {0})) (t : Bool) (n : Refusal) → t ≡ no_other m p q → outcome u ≡ bare o → u ≡ Err n → outcome w ≡ placed t (outcome u)
      → Wrote parts m w m
  unfolding placed
  parted-stops u w t n f a e d =
      go (no_other m p q) (d ∙ ap (λ (x : Bool). placed x (outcome u)) f ∙ ap (λ (v : Answer (Unit {0})). placed (no_other m p q) (outcome v)) e)
    where
      is : (s : Bool) → placed s o ≡ placed s (refused (refusal_number n))
      is s = ap (placed s) (refused-so o u n a e)

      go : (s : Bool) → outcome w ≡ placed s (refused (refusal_number n)) → Wrote (and_then (placed s o) (both m p q)) m w m
      go false h = wrote-refused (and_then (placed false o) (both m p q)) m w (refusal_number n) (then-refused (placed false o) (both m p q) (refusal_number n) (is false)) h
      go true h =
          let k : ℕ = cond (eqb (refusal_number n) 12) 12 2 in
          wrote-refused (and_then (placed true o) (both m p q)) m w k (then-refused (placed true o) (both m p q) k (is true)) h

  -- accepted: where the second slot is none, storing refuses by that 2
  pub parted_goes : (l r : NodeChildren) (w : Answer (Unit {0})) (after : List ℕ) → o ≡ value (l, r) → Wrote (both_stored m p q l r) m w after → Wrote parts m w after
  unfolding placed both_stored and_then
  parted_goes l r w after e v = go (no_other m p q) refl
    where
      go : (s : Bool) → no_other m p q ≡ s → Wrote (and_then (placed s o) (both m p q)) m w after
      go false z = subst (λ (x : Outcome (NodeChildren × NodeChildren)). Wrote (and_then x (both m p q)) m w after) (sym e) v
      go true z =
          subst (λ (x : Outcome (NodeChildren × NodeChildren)). Wrote (and_then (placed true x) (both m p q)) m w after) (sym e)
          (subst (λ (x : Outcome (List ℕ)). Wrote x m w after)
          (rule-applies 2 (no_other m p q || outside m p) ((11, past l.len 16 || past r.len 16) ∷ []) (list_put (list_put m p l) q r) (or_left (no_other m p q) (outside m p) z)) v)
