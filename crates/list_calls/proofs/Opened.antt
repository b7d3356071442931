-- Answers opened, call after call: what a verdict says of the outcome that it tells, and how a promise is met.
use Rattle.std.specs.Prelude.{Ok, Err}
use mathlib.Core.Path.{◌≡◌, refl, sym, ap, subst, ◌∙◌}
use mathlib.Core.Bool.{Bool, true, false, cond}
use mathlib.Core.List.{List}
use Prim.Native.Nat.{ℕ}
use lib.Dec.{eqb}
use Rattle.plain.specs.Outcome.{Outcome, Outcome.value, Outcome.refused, kept, mapped}
use Rattle.answer.specs.Answers.{refusal_number, Answer, outcome}
use Rattle.answer.specs.declared.Refusal.{Refusal}
use Rattle.leaf_bytes.proofs.Opened.{never}
use Rattle.pool.specs.declared.Kid.{Kid}
use Rattle.pool.specs.Calls.{Wrote}
use Rattle.pool.proofs.Rules.{wrote-refused}
use Rattle.node_children.specs.declared.NodeChildren.{NodeChildren}
use Rattle.node_children.specs.declared.Listed.{Listed}
use Rattle.node_children.specs.declared.Taken.{Taken}
use Rattle.node_children.specs.declared.Two.{Two}
use Rattle.node_children.specs.Kids.{Listing, Taking, Parting}
use Rattle.merge.specs.Join.{Joined}
use Rattle.list_calls.specs.Asked.{Five, none, told, and_then, placed, read, said, Replied}

-- ── a verdict ──

-- an outcome with no value of its own
abbrev pub bare : {A : Type 0} → Outcome A → Outcome (Unit {0})
bare o = mapped (λ _. tt) o

-- refused, the outcome is that refusal
pub refused-so : {A : Type 0} (o : Outcome A) (v : Answer (Unit {0})) (q : Refusal) → outcome v ≡ bare o → v ≡ Err q
    → o ≡ refused (refusal_number q)
refused-so {A} o v q p e = go o (sym (ap outcome e) ∙ p)
  where
    go : (o : Outcome A) → refused (refusal_number q) ≡ bare o → o ≡ refused (refusal_number q)
    go (value a) p = absurd (never (refusal_number q) tt p)
    go (refused n) p = let z : n ≡ refusal_number q = cc in ap (λ (k : ℕ). refused k) z

-- accepted, it is what the answer hands out
pub listed : (o : Outcome NodeChildren) (b : NodeChildren) (r : Listed) → Listing o b r → outcome r.verdict ≡ value tt → o ≡ value r.list
listed (value c) b r w e = ap (λ (l : NodeChildren). value l) (sym w.list)
listed (refused n) b r w e = absurd (never n tt (sym w.answered ∙ e))

pub taken : (o : Outcome (Kid × NodeChildren)) (b : NodeChildren) (r : Taken) → Taking o b r → outcome r.verdict ≡ value tt
    → o ≡ value (r.kid, r.list)
taken (value (k, c)) b r w e = let x = w.kid in let y = w.list in cc
taken (refused n) b r w e = absurd (never n tt (sym w.answered ∙ e))

pub two : (o : Outcome (NodeChildren × NodeChildren)) (a b : NodeChildren) (r : Two) → Parting o a b r → outcome r.verdict ≡ value tt
    → o ≡ value (r.left, r.right)
two (value (c, d)) a b r w e = let x = w.left-list in let y = w.right-list in cc
two (refused n) a b r w e = absurd (never n tt (sym w.answered ∙ e))

-- ── where the second list may have no slot ──

pub placed-told : {A : Type 0} (t s : Bool) (o : Outcome A) (v w : Answer (Unit {0})) → t ≡ s → outcome v ≡ bare o → outcome w ≡ placed t (outcome v)
    → outcome w ≡ bare (placed s o)
unfolding placed
placed-told {A} t s o v w f p e = e ∙ ap (λ (x : Bool). placed x (outcome v)) f ∙ ap (placed s) p ∙ go s o
  where
    go : (s : Bool) (o : Outcome A) → placed s (bare o) ≡ bare (placed s o)
    go false o = refl
    go true (value a) = refl
    go true (refused n) = refl

pub placed-two : (t s : Bool) (o : Outcome (NodeChildren × NodeChildren)) (a b : NodeChildren) (r : Two) (w : Answer (Unit {0})) → t ≡ s → Parting o a b r
    → outcome w ≡ placed t (outcome r.verdict) → w ≡ (Ok tt) → placed s o ≡ value (r.left, r.right)
unfolding placed
placed-two t s o a b r w f p e g = go s (sym (ap (λ (x : Bool). placed x (outcome r.verdict)) f) ∙ sym e ∙ ap outcome g)
  where
    lost : (x : Outcome (Unit {0})) → placed true x ≡ value tt → ⊥
    lost (value u) h = never 2 tt h
    lost (refused n) h = never (cond (eqb n 12) 12 2) tt h

    go : (s : Bool) → placed s (outcome r.verdict) ≡ value tt → placed s o ≡ value (r.left, r.right)
    go false h = two o a b r p h
    go true h = absurd (lost (outcome r.verdict) h)

-- ── calls after one another ──

module _ {A B : Type 0} (o : Outcome A) (f : A → Outcome B) where
  pub then-refused : (n : ℕ) → o ≡ refused n → and_then o f ≡ refused n
  unfolding and_then
  then-refused n e = rw e

  pub then-value : (a : A) → o ≡ value a → and_then o f ≡ f a
  unfolding and_then
  then-value a e = rw e

module _ {A : Type 0} (o : Outcome A) (m : List ℕ) where
  -- the first one refused
  pub wrote-stops : (f : A → Outcome (List ℕ)) (v : Answer (Unit {0})) (q : Refusal) → outcome v ≡ bare o → v ≡ Err q
      → Wrote (and_then o f) m v m
  wrote-stops f v q p e = wrote-refused (and_then o f) m v (refusal_number q) (then-refused o f (refusal_number q) (refused-so o v q p e)) (ap outcome e)

  pub replied-stops : (f : A → Outcome (Five × List ℕ)) (v : Answer (Unit {0})) (q : Refusal) (r : Answer Five) → outcome v ≡ bare o
      → v ≡ Err q → outcome r ≡ mapped (λ _. none) (outcome v) → Replied (and_then o f) m r m
  replied-stops f v q r p e h =
      subst (λ (x : Outcome (Five × List ℕ)). Replied x m r m) (sym (then-refused o f (refusal_number q) (refused-so o v q p e)))
      (record { answered = h ∙ ap (λ (x : Answer (Unit {0})). mapped (λ _. none) (outcome x)) e; memory = refl })

  -- the first one accepted
  pub wrote-goes : (f : A → Outcome (List ℕ)) (v : Answer (Unit {0})) (after : List ℕ) (a : A) → o ≡ value a → Wrote (f a) m v after → Wrote (and_then o f) m v after
  wrote-goes f v after a e w = subst (λ (x : Outcome (List ℕ)). Wrote x m v after) (sym (then-value o f a e)) w

  pub replied-goes : (f : A → Outcome (Five × List ℕ)) (r : Answer Five) (after : List ℕ) (a : A) → o ≡ value a → Replied (f a) m r after
      → Replied (and_then o f) m r after
  replied-goes f r after a e w = subst (λ (x : Outcome (Five × List ℕ)). Replied x m r after) (sym (then-value o f a e)) w

-- ── the one form of answer ──

module _ (m : List ℕ) (r : Answer Five) where
  pub wrote-replied : (o : Outcome (List ℕ)) (x : Five) (v : Answer (Unit {0})) (after : List ℕ) → Wrote o m v after → outcome r ≡ mapped (λ _. x) (outcome v)
      → Replied (mapped (λ n. (x, n)) o) m r after
  wrote-replied o x v after w e = go o w.memory (e ∙ ap (mapped (λ _. x)) w.answered)
    where
      go : (o : Outcome (List ℕ)) → after ≡ kept m o → outcome r ≡ mapped (λ _. x) (bare o) → Replied (mapped (λ n. (x, n)) o) m r after
      go (value n) h e = record { answered = e; memory = h }
      go (refused n) h e = record { answered = e; memory = h }

  pub said-replied : (o : Outcome (Bool × List ℕ)) (t : Answer Bool) (after : List ℕ) → Joined o m t after → outcome r ≡ mapped told (outcome t)
      → Replied (said o) m r after
  said-replied o t after w e = go o w.memory (e ∙ ap (mapped told) w.answered)
    where
      go : (o : Outcome (Bool × List ℕ)) → after ≡ kept m (mapped (λ t. t.1) o) → outcome r ≡ mapped told (mapped (λ t. t.0) o) → Replied (said o) m r after
      go (value n) h e = record { answered = e; memory = h }
      go (refused n) h e = record { answered = e; memory = h }

  pub read-replied : (o : Outcome Five) → outcome r ≡ o → Replied (read m o) m r m
  read-replied (value n) e = record { answered = e; memory = refl }
  read-replied (refused n) e = record { answered = e; memory = refl }
