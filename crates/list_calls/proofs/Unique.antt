-- What a list call promises settles its answer and every byte afterwards: no second outcome meets it.
use Rattle.std.specs.Prelude.{Ok, Err}
use mathlib.Core.Path.{◌≡◌, sym, ap, ◌∙◌}
use mathlib.Core.List.{List}
use Prim.Native.Nat.{ℕ}
use native.Mathlib.Omega.{arith}
use Rattle.plain.specs.Outcome.{Outcome}
use Rattle.answer.specs.Answers.{refusal_number, Answer, outcome}
use Rattle.answer.proofs.Unique.{refusal-one}
use Rattle.list_calls.specs.Asked.{Five, Replied}

apart : ◌≡◌ {A = ℕ} 0 1 → ⊥
apart z = omega arith

pub reply-one : (a b : Answer Five) → outcome a ≡ outcome b → a ≡ b
reply-one (Ok (a, b, c, d, e)) (Ok (f, g, h, i, j)) z =
    let five : ◌≡◌ {A = Five} (a, b, c, d, e) (f, g, h, i, j) = cc in
    ap (λ (n : Five). Ok (n.0, n.1, n.2, n.3, n.4)) five
reply-one (Ok (a, b, c, d, e)) (Err r) z = absurd (apart cc)
reply-one (Err q) (Ok (f, g, h, i, j)) z = absurd (apart cc)
reply-one (Err q) (Err r) z = let same : refusal_number q ≡ refusal_number r = cc in ap Err (refusal-one q r same)

pub replied-one : (o : Outcome (Five × List ℕ)) (before : List ℕ) (r s : Answer Five) (after later : List ℕ)
    → Replied o before r after → Replied o before s later → (r ≡ s) × (after ≡ later)
replied-one o before r s after later p q = (reply-one r s (p.answered ∙ sym q.answered), p.memory ∙ sym q.memory)
