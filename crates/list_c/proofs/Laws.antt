-- What C is told, from what the calls answer: in each of the two cases of an answer.
use Rattle.std.specs.Prelude.{Ok, Err}
use mathlib.Core.Path.{◌≡◌, refl, sym, ap, ◌∙◌}
use mathlib.Core.List.{List}
use Prim.Native.Nat.{ℕ}
use native.Mathlib.Omega.{arith}
use Rattle.plain.specs.Outcome.{Outcome, Outcome.value, Outcome.refused, kept, mapped}
use Rattle.answer.specs.Answers.{refusal_number, Answer, outcome}
use Rattle.answer.specs.declared.Refusal.{Refusal}
use Rattle.told.specs.Told.{code}
use Rattle.list_calls.specs.Asked.{Five, Replied}
use Rattle.list_c.specs.Told.{ListTold}

module _ (o : Outcome (Five × List ℕ)) (m : List ℕ) (x : Five) (s : Answer Five) (after : List ℕ) (h : Replied o m s after) where
  pub list-is : (a b c d e : ℕ) → s ≡ Ok (a, b, c, d, e) → ListTold o m x 0 after (a, b, c, d, e)
  unfolding code
  list-is a b c d e f = go o h.memory (sym (ap outcome f) ∙ h.answered)
    where
      go : (o : Outcome (Five × List ℕ)) → after ≡ kept m (mapped (λ t. t.1) o) → value (a, b, c, d, e) ≡ mapped (λ t. t.0) o
          → ListTold o m x 0 after (a, b, c, d, e)
      go (value t) k z = let y : ◌≡◌ {A = Five} (a, b, c, d, e) t.0 = cc in record { coded = refl; memory-is = k; numbers-are = y }
      go (refused n) k z = absurd (let y : ◌≡◌ {A = ℕ} 0 1 = cc in omega arith)

  pub list-refused : (q : Refusal) (n : ℕ) → s ≡ Err q → n ≡ refusal_number q → ListTold o m x n after x
  unfolding code
  list-refused q n f g = go o h.memory (sym (ap outcome f) ∙ h.answered)
    where
      go : (o : Outcome (Five × List ℕ)) → after ≡ kept m (mapped (λ t. t.1) o) → refused (refusal_number q) ≡ mapped (λ t. t.0) o
          → ListTold o m x n after x
      go (value t) k z = absurd (let y : ◌≡◌ {A = ℕ} 0 1 = cc in omega arith)
      go (refused p) k z = let y : n ≡ p = cc in record { coded = y; memory-is = k; numbers-are = refl }
