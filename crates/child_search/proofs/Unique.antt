-- No second answer meets a promise of the sums and searches.
use Rattle.std.specs.Prelude.{Ok, Err}
use mathlib.Core.Path.{◌≡◌, ap}
use Prim.Native.Nat.{ℕ}
use native.Mathlib.Omega.{arith}
use Rattle.answer.specs.Answers.{refusal_number, Answer, outcome}
use Rattle.answer.proofs.Unique.{refusal-one}
use Rattle.text_info.specs.declared.TextSum.{TextSum}

pub sum_one : (a b : Answer TextSum) → outcome a ≡ outcome b → a ≡ b
sum_one (Ok m) (Ok n) e = let z : m ≡ n = cc in ap Ok z
sum_one (Ok m) (Err r) e = absurd (let z : ◌≡◌ {A = ℕ} 0 1 = cc in omega arith)
sum_one (Err q) (Ok n) e = absurd (let z : ◌≡◌ {A = ℕ} 0 1 = cc in omega arith)
sum_one (Err q) (Err r) e = let z : refusal_number q ≡ refusal_number r = cc in ap Err (refusal-one q r z)

pub found-one : (a b : Answer (ℕ × TextSum)) → outcome a ≡ outcome b → a ≡ b
found-one (Ok (i, m)) (Ok (j, n)) e =
    let z : ◌≡◌ {A = ℕ × TextSum} (i, m) (j, n) = cc in
    let x : i ≡ j = ap (λ (p : ℕ × TextSum). p.0) z in
    let y : m ≡ n = ap (λ (p : ℕ × TextSum). p.1) z in
    cc
found-one (Ok (i, m)) (Err r) e = absurd (let z : ◌≡◌ {A = ℕ} 0 1 = cc in omega arith)
found-one (Err q) (Ok (j, n)) e = absurd (let z : ◌≡◌ {A = ℕ} 0 1 = cc in omega arith)
found-one (Err q) (Err r) e = let z : refusal_number q ≡ refusal_number r = cc in ap Err (refusal-one q r z)

pub found-chars-one : (a b : Answer (ℕ × ℕ)) → outcome a ≡ outcome b → a ≡ b
found-chars-one (Ok (i, m)) (Ok (j, n)) e =
    let z : ◌≡◌ {A = ℕ × ℕ} (i, m) (j, n) = cc in
    let x : i ≡ j = ap (λ (p : ℕ × ℕ). p.0) z in
    let y : m ≡ n = ap (λ (p : ℕ × ℕ). p.1) z in
    cc
found-chars-one (Ok (i, m)) (Err r) e = absurd (let z : ◌≡◌ {A = ℕ} 0 1 = cc in omega arith)
found-chars-one (Err q) (Ok (j, n)) e = absurd (let z : ◌≡◌ {A = ℕ} 0 1 = cc in omega arith)
found-chars-one (Err q) (Err r) e = let z : refusal_number q ≡ refusal_number r = cc in ap Err (refusal-one q r z)

pub found-range-one : (a b : Answer ((ℕ × ℕ) × (ℕ × ℕ))) → outcome a ≡ outcome b → a ≡ b
found-range-one (Ok ((i, m), (j, n))) (Ok ((i', m'), (j', n'))) e =
    let z : ◌≡◌ {A = (ℕ × ℕ) × (ℕ × ℕ)} ((i, m), (j, n)) ((i', m'), (j', n')) = cc in
    let x : i ≡ i' = ap (λ (p : (ℕ × ℕ) × (ℕ × ℕ)). p.0.0) z in
    let y : m ≡ m' = ap (λ (p : (ℕ × ℕ) × (ℕ × ℕ)). p.0.1) z in
    let u : j ≡ j' = ap (λ (p : (ℕ × ℕ) × (ℕ × ℕ)). p.1.0) z in
    let v : n ≡ n' = ap (λ (p : (ℕ × ℕ) × (ℕ × ℕ)). p.1.1) z in
    cc
found-range-one (Ok ((i, m), (j, n))) (Err r) e = absurd (let z : ◌≡◌ {A = ℕ} 0 1 = cc in omega arith)
found-range-one (Err q) (Ok ((i, m), (j, n))) e = absurd (let z : ◌≡◌ {A = ℕ} 0 1 = cc in omega arith)
found-range-one (Err q) (Err r) e = let z : refusal_number q ≡ refusal_number r = cc in ap Err (refusal-one q r z)
