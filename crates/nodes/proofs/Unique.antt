-- What a call on a node promises settles its answer and every byte afterwards: no second outcome meets it. Of `load` and `store` that is
-- said by `node_children` and `pool`, of `text_of` by `leaf_bytes`.
use Rattle.text_info.specs.declared.TextInfo.{TextInfo}
use Rattle.std.specs.Prelude.{Ok, Err}
use mathlib.Core.Path.{◌≡◌, sym, ap, ◌∙◌}
use mathlib.Core.List.{List}
use Prim.Native.Nat.{ℕ}
use native.Mathlib.Omega.{arith}
use Rattle.plain.specs.Outcome.{Outcome}
use Rattle.answer.specs.Answers.{refusal_number, Answer, outcome}
use Rattle.answer.proofs.Unique.{refusal-one, answer-one, answer-one}
use Rattle.nodes.specs.Calls.{LeafWrote, LeavesWrote}

apart : ◌≡◌ {A = ℕ} 0 1 → ⊥
apart z = omega arith

pub info-one : (a b : Answer TextInfo) → outcome a ≡ outcome b → a ≡ b
info-one (Ok j) (Ok k) e = let z : j ≡ k = cc in ap Ok z
info-one (Ok j) (Err r) e = absurd (apart cc)
info-one (Err q) (Ok k) e = absurd (apart cc)
info-one (Err q) (Err r) e = let z : refusal_number q ≡ refusal_number r = cc in ap Err (refusal-one q r z)

pub leaf-wrote-one : (o : Outcome (List ℕ)) (before : List ℕ) (slot : ℕ) (r s : Answer ℕ) (after later : List ℕ)
    → LeafWrote o before slot r after → LeafWrote o before slot s later → (r ≡ s) × (after ≡ later)
leaf-wrote-one o before slot r s after later p q = (answer-one r s (p.answered ∙ sym q.answered), p.memory ∙ sym q.memory)

pub leaves-wrote-one : (o : Outcome (List ℕ × List ℕ)) (before : List ℕ) (slot right : ℕ) (r s : Answer (ℕ × ℕ)) (after later : List ℕ)
    → LeavesWrote o before slot right r after → LeavesWrote o before slot right s later → (r ≡ s) × (after ≡ later)
leaves-wrote-one o before slot right r s after later p q = (answer-one r s (p.answered ∙ sym q.answered), p.memory ∙ sym q.memory)
