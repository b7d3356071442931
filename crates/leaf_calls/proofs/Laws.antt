-- A call on one leaf, beside a right leaf that stays as it lies; an answer by its call, and by its number.
use Rattle.answer.specs.Answers.{refusal_number, Answer, outcome}
use Rattle.answer.specs.declared.Refusal.{Refusal}
use Rattle.std.specs.Prelude.{Ok, Err}
use mathlib.Core.Path.{◌≡◌, refl, sym, ap, ◌∙◌}
use mathlib.Core.Bool.{Bool, true, false, cond, ◌||◌}
use mathlib.Core.List.{List, [], ◌∷◌}
use native.Mathlib.Omega.{arith}
use lib.Dec.{eqb, ltb}
use Prim.Native.Nat.{ℕ, zero, suc, ◌-◌}
use lib.ListN.{length, get_or}
use Rattle.plain.specs.Outcome.{Outcome, Outcome.value, Outcome.refused, mapped}
use Rattle.leaf_bytes.specs.Leaf.{leaf_of, laid, written, Leaf, Leaves}
use Rattle.leaf_bytes.proofs.Rules.{leaves-refused, leaves-same}
use Rattle.leaf_calls.specs.Asked.{beside, asked, calls, named, asked_by}
use Rattle.leaf_calls.specs.declared.Call.{Call}
use Rattle.leaf_calls.specs.declared.Call.TheVariants.{FromStr}

-- a leaf laid where it lies changes nothing
pub as-it-lies : (n : ℕ) (region : List ℕ) → region ≡ laid region (leaf_of region n)
as-it-lies zero region = refl
as-it-lies (suc n) [] = refl
as-it-lies (suc n) (x ∷ region) = ap (λ (l : List ℕ). x ∷ l) (as-it-lies n region)

-- an edit of the left leaf, told beside the right one
pub one-leaf : {o : Outcome (List ℕ)} {left after : List ℕ} {n : Answer ℕ} (right : List ℕ) (m : ℕ) {r : Answer (ℕ × ℕ)} → Leaf o left n after
    → outcome r ≡ mapped (λ k. (k, length (leaf_of right m))) (outcome n) → Leaves (beside (leaf_of right m) o) left right r after right
one-leaf {o} {left} {after} {n} right m {r} h e = go o h.region (e ∙ ap (mapped (λ k. (k, length (leaf_of right m)))) h.answered)
  where
    go : (o : Outcome (List ℕ)) → after ≡ written left o → outcome r ≡ mapped (λ k. (k, length (leaf_of right m))) (mapped (λ t. length t) o)
        → Leaves (beside (leaf_of right m) o) left right r after right
    go (value t) w a = record { answered = a; left-region = w; right-region = as-it-lies m right }
    go (refused k) w a = record { answered = a; left-region = w; right-region = refl }

module _ (left : List ℕ) (len s e : ℕ) (piece right : List ℕ) (rlen : ℕ) where
  -- the answer of the call that is asked
  pub by_call : {k : Call} (j : Call) {r : Answer (ℕ × ℕ)} {x y : List ℕ} → k ≡ j → Leaves (asked j left len s e piece right rlen) left right r x y
      → Leaves (asked k left len s e piece right rlen) left right r x y
  by_call j p h = leaves-same _ _ _ _ _ _ _ (ap (λ (c : Call). asked c left len s e piece right rlen) (sym p)) h

  -- ── by number ──

  module _ (k : ℕ) {r : Answer Call} (n : outcome r ≡ named k) where
    -- a number that names no call
    pub no-call : {q : Refusal} → r ≡ Err q → Leaves (asked_by k left len s e piece right rlen) left right (Err q) left right
    unfolding named asked_by
    no-call {q} f = go (eqb k 0 || ltb 10 k) (get_or calls (k - 1) FromStr) (sym (ap outcome f) ∙ n)
      where
        go : (t : Bool) (x : Call) → refused (refusal_number q) ≡ cond t (refused 10) (value x)
            → Leaves (cond t (refused 10) (asked x left len s e piece right rlen)) left right (Err q) left right
        go true x h = leaves-refused _ _ _ _ 10 refl (let z : refusal_number q ≡ 10 = cc in ap (λ (j : ℕ). refused j) z)
        go false x h = absurd (let z : ◌≡◌ {A = ℕ} 0 1 = cc in omega arith)

    -- the answer of the call that the number names
    pub by_number : {c : Call} {a : Answer (ℕ × ℕ)} {x y : List ℕ} → r ≡ Ok c → Leaves (asked c left len s e piece right rlen) left right a x y
        → Leaves (asked_by k left len s e piece right rlen) left right a x y
    unfolding named asked_by
    by_number {c} f l = leaves-same _ _ _ _ _ _ _ (go (eqb k 0 || ltb 10 k) (get_or calls (k - 1) FromStr) (sym (ap outcome f) ∙ n)) l
      where
        go : (t : Bool) (x : Call) → value c ≡ cond t (refused 10) (value x)
            → asked c left len s e piece right rlen ≡ cond t (refused 10) (asked x left len s e piece right rlen)
        go true x h = absurd (let z : ◌≡◌ {A = ℕ} 0 1 = cc in omega arith)
        go false x h = let z : c ≡ x = cc in ap (λ (d : Call). asked d left len s e piece right rlen) z
