-- Demand 1: each call either does its work or gives one refusal of document 01's list, and a refused call leaves every lent byte as it found it. That
-- each call ends, whatever arrives, is part of what the prover shows of every function.
use mathlib.Core.Path.{◌≡◌, refl, sym, ap, ◌∙◌}
use mathlib.Core.Bool.{Bool, true, false}
use mathlib.Core.Logic.{◌⊎◌, inl, inr}
use mathlib.Core.List.{List}
use Prim.Native.Nat.{ℕ}
use native.Mathlib.Omega.{arith}
use Rattle.plain.specs.Outcome.{Outcome, Outcome.value, Outcome.refused, mapped}
use Rattle.plain_note.specs.Note.{Note}
use Rattle.plain_calls.specs.Calls.{Call, Said, called}
use Rattle.plain_calls.proofs.Rules.{Applies}
use Rattle.plain_calls.proofs.Refusals.{rules_of, refusal-applies}
use Rattle.memory.specs.Formed.{well_formed, note_of, of_note}
use Rattle.memory.proofs.Formed.{note-called, note-refused}
use Rattle.demands.specs.Steps.{Step}

first-refused : (o : Outcome (Said × Note)) (q : ℕ) → mapped (λ r. r.0) o ≡ refused q → o ≡ refused q
first-refused (value r) q e = absurd (let z : ◌≡◌ {A = ℕ} 0 1 = cc in omega arith)
first-refused (refused n) q e = let z : n ≡ q = cc in ap (λ (k : ℕ). refused k) z

module _ (c : Call) (m after : List ℕ) (q : ℕ) (s : Step c m (refused q) after) where
  came-to : of_note m (λ N. called N c) ≡ refused q
  came-to = first-refused (of_note m (λ N. called N c)) q (sym s.answered)

  -- DEMAND 1: a refused call changes no byte
  pub refused-unchanged : after ≡ m
  refused-unchanged = s.unchanged q came-to

  -- DEMAND 1: its number is 2 where the memory is not well formed, and else one of the call's own rules, which then applies
  pub refusal-listed : ((q ≡ 2) × (well_formed m ≡ false)) ⊎ ((well_formed m ≡ true) × Applies q (rules_of (note_of m) c))
  refusal-listed = go (well_formed m) refl
    where
      go : (t : Bool) → well_formed m ≡ t → ((q ≡ 2) × (well_formed m ≡ false)) ⊎ ((well_formed m ≡ true) × Applies q (rules_of (note_of m) c))
      go true ok = inr (ok, refusal-applies (note_of m) c q (sym (note-called m (λ N. called N c) ok) ∙ came-to))
      go false bad =
          let y : ◌≡◌ {A = Outcome (Said × Note)} (refused 2) (refused q) = sym (note-refused m (λ N. called N c) bad) ∙ came-to in
          let z : 2 ≡ q = cc in inl (sym z, bad)
