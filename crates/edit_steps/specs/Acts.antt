-- A call that works on the lent memory, on paper: what it answers, and every byte afterwards. Such calls behind each other.
use Rattle.std.specs.Prelude.{◌≡◌, List, ℕ}
use Rattle.plain.specs.Outcome.{Outcome, Outcome.value, Outcome.refused, kept, mapped}

abbrev pub Act : Type 0 → Type 0
Act A = Outcome A × List ℕ

-- a call that changes no byte of m where it is refused
abbrev pub settled : {A : Type 0} → List ℕ → Outcome (A × List ℕ) → Act A
settled m o = (mapped (λ t. t.0) o, kept m (mapped (λ t. t.1) o))

-- a call behind one that only reads m
abbrev pub reading : {A B : Type 0} → List ℕ → Outcome A → (A → Act B) → Act B
reading m (value a) f = f a
reading m (refused n) f = (refused n, m)

-- a call behind another that was accepted, on the memory that it left
abbrev pub onward : {A B : Type 0} → Act A → (A → List ℕ → Act B) → Act B
onward o f = reading o.1 o.0 (λ a. f a o.1)

-- what such a call leaves: its answer, by what that means, and the memory
pub record Did {A B : Type 0} (means : B → Outcome A) (o : Act A) (r : B) (after : List ℕ) : Type 0 where
  pub answered : means r ≡ o.0
  pub memory : after ≡ o.1
