-- No second answer meets the promise of a search down the tree.
use Rattle.std.specs.Prelude.{Ok, Err}
use mathlib.Core.Path.{◌≡◌, ap}
use Prim.Native.Nat.{ℕ}
use native.Mathlib.Omega.{arith}
use Rattle.answer.specs.Answers.{refusal_number, Answer, outcome}
use Rattle.answer.proofs.Unique.{refusal-one}
use Rattle.text_info.specs.declared.TextSum.{TextSum}

pub spot-one : (a b : Answer (ℕ × TextSum)) → outcome a ≡ outcome b → a ≡ b
spot-one (Ok (i, m)) (Ok (j, n)) e =
    let z : ◌≡◌ {A = ℕ × TextSum} (i, m) (j, n) = cc in
    let x : i ≡ j = ap (λ (p : ℕ × TextSum). p.0) z in
    let y : m ≡ n = ap (λ (p : ℕ × TextSum). p.1) z in
    cc
spot-one (Ok (i, m)) (Err r) e = absurd (let z : ◌≡◌ {A = ℕ} 0 1 = cc in omega arith)
spot-one (Err q) (Ok (j, n)) e = absurd (let z : ◌≡◌ {A = ℕ} 0 1 = cc in omega arith)
spot-one (Err q) (Err r) e = let z : refusal_number q ≡ refusal_number r = cc in ap Err (refusal-one q r z)

pub branch_one : (a b : Answer (ℕ × (ℕ × TextSum))) → outcome a ≡ outcome b → a ≡ b
branch_one (Ok (i, (s, m))) (Ok (j, (t, n))) e =
    let z : ◌≡◌ {A = ℕ × (ℕ × TextSum)} (i, (s, m)) (j, (t, n)) = cc in
    let x : i ≡ j = ap (λ (p : ℕ × (ℕ × TextSum)). p.0) z in
    let y : s ≡ t = ap (λ (p : ℕ × (ℕ × TextSum)). p.1.0) z in
    let w : m ≡ n = ap (λ (p : ℕ × (ℕ × TextSum)). p.1.1) z in
    cc
branch_one (Ok (i, (s, m))) (Err r) e = absurd (let z : ◌≡◌ {A = ℕ} 0 1 = cc in omega arith)
branch_one (Err q) (Ok (j, (t, n))) e = absurd (let z : ◌≡◌ {A = ℕ} 0 1 = cc in omega arith)
branch_one (Err q) (Err r) e = let z : refusal_number q ≡ refusal_number r = cc in ap Err (refusal-one q r z)
