-- What a call on slots promises settles its answer and every byte afterwards: no second outcome meets it.
use Rattle.std.specs.Prelude.{Ok, Err}
use mathlib.Core.Path.{◌≡◌, sym, ap, ◌∙◌}
use mathlib.Core.List.{List}
use Prim.Native.Nat.{ℕ}
use native.Mathlib.Omega.{arith}
use Rattle.plain.specs.Outcome.{Outcome}
use Rattle.answer.specs.Answers.{refusal_number, Answer}
use Rattle.answer.proofs.Unique.{refusal-one, answer-one}
use Rattle.pool.specs.declared.Head.{Head}
use Rattle.pool.specs.declared.Head.TheVariants as Head·case
use Rattle.pool.specs.Calls.{held, Wrote}

apart : ◌≡◌ {A = ℕ} 0 1 → ⊥
apart z = omega arith

pub held_one : (a b : Answer Head) → held a ≡ held b → a ≡ b
held_one (Ok (Head·case.Free m)) (Ok (Head·case.Free n)) e = let z : m ≡ n = cc in ap (λ (n : ℕ). Ok (Head·case.Free n)) z
held_one (Ok (Head·case.Leaf m)) (Ok (Head·case.Leaf n)) e = let z : m ≡ n = cc in ap (λ (n : ℕ). Ok (Head·case.Leaf n)) z
held_one (Ok (Head·case.List m)) (Ok (Head·case.List n)) e = let z : m ≡ n = cc in ap (λ (n : ℕ). Ok (Head·case.List n)) z
held_one (Err q) (Err r) e = let z : refusal_number q ≡ refusal_number r = cc in ap Err (refusal-one q r z)
held_one (Ok (Head·case.Free m)) (Ok (Head·case.Leaf n)) e = absurd (apart (cc))
held_one (Ok (Head·case.Free m)) (Ok (Head·case.List n)) e = absurd (apart (cc))
held_one (Ok (Head·case.Free m)) (Err r) e = absurd (apart (cc))
held_one (Ok (Head·case.Leaf m)) (Ok (Head·case.Free n)) e = absurd (apart (cc))
held_one (Ok (Head·case.Leaf m)) (Ok (Head·case.List n)) e = absurd (apart (cc))
held_one (Ok (Head·case.Leaf m)) (Err r) e = absurd (apart (cc))
held_one (Ok (Head·case.List m)) (Ok (Head·case.Free n)) e = absurd (apart (cc))
held_one (Ok (Head·case.List m)) (Ok (Head·case.Leaf n)) e = absurd (apart (cc))
held_one (Ok (Head·case.List m)) (Err r) e = absurd (apart (cc))
held_one (Err q) (Ok (Head·case.Free n)) e = absurd (apart (cc))
held_one (Err q) (Ok (Head·case.Leaf n)) e = absurd (apart (cc))
held_one (Err q) (Ok (Head·case.List n)) e = absurd (apart (cc))

pub wrote_one : (o : Outcome (List ℕ)) (before : List ℕ) (r s : Answer (Unit {0})) (after later : List ℕ) → Wrote o before r after → Wrote o before s later → (r ≡ s) × (after ≡ later)
wrote_one o before r s after later p q = (answer-one r s (p.answered ∙ sym q.answered), p.memory ∙ sym q.memory)
