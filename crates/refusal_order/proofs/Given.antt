-- Of rules in document 01's order the one that comes first among those that apply is given.
use mathlib.Core.Path.{◌≡◌, refl, sym, ap, ◌∙◌}
use mathlib.Core.Logic.{◌⊎◌, inl, inr}
use mathlib.Core.Bool.{Bool, true, false, not, cond, true≢false}
use mathlib.Core.List.Memᴰ
use mathlib.Core.List.{List, [], ◌∷◌}
use Prim.Native.Nat.{ℕ, ◌≤◌, ◌<◌}
use native.Mathlib.Omega.{arith}
use lib.Dec.{ltb}
use borrow.Author.Tests.{ltb-true}
use Rattle.plain.specs.Outcome.{Outcome, Outcome.value, Outcome.refused, Rule, ruled}
use Rattle.plain.proofs.Logic.{and_left, and_right}
use Rattle.plain.proofs.Outcome.{passed}
use Rattle.plain_calls.proofs.Rules.{mapped-ruled, Applies, refused-applies, applies-refused}
use Rattle.refusal_order.specs.Order.{rank, behind, ordered, judged, InOrder}

behind-above : (b j : ℕ) (rs : List Rule) → behind b rs ≡ true → Applies j rs → b < rank j
behind-above b j [] h m = absurd (Memᴰ.not-nil m)
behind-above b j (r ∷ rs) h m = go (Memᴰ.cases_cons m) (behind-above (rank r.0) j rs (and_right (ltb b (rank r.0)) (behind (rank r.0) rs) h))
  where
    first : b < rank r.0
    first = ltb-true b (rank r.0) (and_left (ltb b (rank r.0)) (behind (rank r.0) rs) h)

    go : ((j, true) ≡ r) ⊎ Applies j rs → (Applies j rs → rank r.0 < rank j) → b < rank j
    go (inl z) f = omega (arith, ap (λ (q : Rule). rank q.0) z, first)
    go (inr later) f = omega (arith, f later, first)

rest-ordered : (b : ℕ) (rs : List Rule) → behind b rs ≡ true → ordered rs ≡ true
rest-ordered b [] h = refl
rest-ordered b (r ∷ rs) h = and_right (ltb b (rank r.0)) (behind (rank r.0) rs) h

first_of : {A : Type 0} (rs : List Rule) (a : A) (n j : ℕ) → ordered rs ≡ true → ruled rs a ≡ refused n → Applies j rs → rank n ≤ rank j
unfolding ruled
first_of [] a n j h e m = absurd (Memᴰ.not-nil m)
first_of {A} (r ∷ rs) a n j h e m = go r.1 refl e (Memᴰ.cases_cons m) (first_of rs a n j (rest-ordered (rank r.0) rs h))
  where
    same : ◌≡◌ {A = Outcome A} (refused r.0) (refused n) → r.0 ≡ n
    same e = cc

    go : (t : Bool) → r.1 ≡ t → cond t (refused r.0) (ruled rs a) ≡ refused n → ((j, true) ≡ r) ⊎ Applies j rs
        → (ruled rs a ≡ refused n → Applies j rs → rank n ≤ rank j) → rank n ≤ rank j
    go true f e (inl z) ih = omega (arith, ap (λ (q : Rule). rank q.0) z, ap rank (same e))
    go true f e (inr later) ih = omega (arith, behind-above (rank r.0) j rs h later, ap rank (same e))
    go false f e (inl z) ih = absurd (true≢false (ap (λ (q : Rule). q.1) z ∙ f))
    go false f e (inr later) ih = ih e later

-- THEOREM: a call whose rules stand in this order is refused where one of them applies, and nowhere else, and by the first number that applies:
-- by 12 if that applies, else by the lowest.
module _ {A : Type 0} (rs : List Rule) (o : Outcome A) (w : InOrder rs o) where
  pub applies-refuses : (j : ℕ) (a : A) → Applies j rs → o ≡ value a → ⊥
  applies-refuses j a m e = applies-refused j rs m (passed rs tt tt (sym w.settled ∙ ap judged e)).0

  pub refusal-applies : (n : ℕ) → o ≡ refused n → Applies n rs
  refusal-applies n e = refused-applies rs tt n (sym w.settled ∙ ap judged e)

  pub first-given : (n j : ℕ) → o ≡ refused n → Applies j rs → rank n ≤ rank j
  first-given n j e m = first_of rs tt n j w.order (sym w.settled ∙ ap judged e) m

-- ── how a call's rules are known ──

-- its definition is the rules and a value
pub by-rules : {A : Type 0} (rs : List Rule) (a : A) → ordered rs ≡ true → InOrder rs (ruled rs a)
by-rules rs a h = record { settled = mapped-ruled (λ x. tt) rs a; order = h }

-- a call on what a slot holds, where it holds that: 2 where not, and the call's own rules behind it
pub in-slot : {A : Type 0} (t : Bool) (rs : List Rule) (a : A) → ordered ((2, not t) ∷ rs) ≡ true → InOrder ((2, not t) ∷ rs) (cond t (ruled rs a) (refused 2))
unfolding ruled
in-slot true rs a h = record { settled = mapped-ruled (λ x. tt) rs a; order = h }
in-slot false rs a h = record { settled = refl; order = h }
