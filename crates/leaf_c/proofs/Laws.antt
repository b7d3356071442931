-- What C is told, from what the calls answer: in each of the two cases of an answer, and for each sign of a sum.
use Rattle.std.specs.Prelude.{Ok, Err}
use mathlib.Core.Path.{◌≡◌, refl, ap}
use mathlib.Core.Bool.{Bool, true, false}
use mathlib.Core.List.{List}
use Prim.Native.Nat.{ℕ}
use native.Mathlib.Omega.{arith}
use lib.ListN.{length}
use Rattle.plain.specs.Outcome.{Outcome, Outcome.value, Outcome.refused}
use Rattle.answer.specs.Answers.{refusal_number, Answer, outcome}
use Rattle.answer.specs.declared.Refusal.{Refusal}
use Rattle.leaf_bytes.specs.Leaf.{Leaves}
use Rattle.text_info.specs.Info.{Summed}
use Rattle.text_info.specs.declared.TextInfo.{TextInfo}
use Rattle.text_info.specs.declared.TextSum.{TextSum}
use Rattle.told.specs.Told.{code}
use Rattle.leaf_c.specs.Told.{LeavesTold, InfoTold, SumTold}

module _ (o : Outcome (List ℕ × List ℕ)) (left right : List ℕ) (x y : ℕ) {s : Answer (ℕ × ℕ)} {left-after right-after : List ℕ} where
  pub leaves-are : (l r : ℕ) → s ≡ Ok (l, r) → Leaves o left right s left-after right-after
      → LeavesTold o left right x y 0 left-after right-after l r
  unfolding code
  leaves-are l r e h = go o (rw e at h)
    where
      go : (o : Outcome (List ℕ × List ℕ)) → Leaves o left right (Ok (l, r)) left-after right-after
          → LeavesTold o left right x y 0 left-after right-after l r
      go (value t) h =
          let z : ◌≡◌ {A = ℕ × ℕ} (l, r) (length t.0, length t.1) = let a = h.answered in cc in
          record {
            coded = refl;
            left-region = h.left-region;
            right-region = h.right-region;
            left-length = ap (λ (p : ℕ × ℕ). p.0) z;
            right-length = ap (λ (p : ℕ × ℕ). p.1) z;
          }
      go (refused k) h = absurd (let z : ◌≡◌ {A = ℕ} 0 1 = let a = h.answered in cc in omega arith)

  pub leaves-refused : (q : Refusal) (n : ℕ) → s ≡ Err q → n ≡ refusal_number q → Leaves o left right s left-after right-after
      → LeavesTold o left right x y n left-after right-after x y
  unfolding code
  leaves-refused q n e f h = go o (rw e at h)
    where
      go : (o : Outcome (List ℕ × List ℕ)) → Leaves o left right (Err q) left-after right-after
          → LeavesTold o left right x y n left-after right-after x y
      go (value t) h = absurd (let z : ◌≡◌ {A = ℕ} 0 1 = let a = h.answered in cc in omega arith)
      go (refused k) h =
          let z : n ≡ k = let a = h.answered in cc in
          record { coded = z; left-region = h.left-region; right-region = h.right-region; left-length = refl; right-length = refl }

module _ (o : Outcome TextInfo) (b c u l : ℕ) {a : Answer TextInfo} (h : outcome a ≡ o) where
  pub info-is : (i : TextInfo) → a ≡ Ok i → InfoTold o b c u l 0 i.bytes i.chars i.utf16_surrogates i.line_breaks
  unfolding code
  info-is i e = go o (rw e at h)
    where
      go : (o : Outcome TextInfo) → value i ≡ o → InfoTold o b c u l 0 i.bytes i.chars i.utf16_surrogates i.line_breaks
      go (value j) h =
          let z : i ≡ j = cc in
          record {
            coded = refl;
            bytes-are = ap (λ (t : TextInfo). t.bytes) z;
            chars-are = ap (λ (t : TextInfo). t.chars) z;
            surrogates-are = ap (λ (t : TextInfo). t.utf16_surrogates) z;
            breaks-are = ap (λ (t : TextInfo). t.line_breaks) z;
          }
      go (refused k) h = absurd (let z : ◌≡◌ {A = ℕ} 0 1 = cc in omega arith)

  pub info-refused : (q : Refusal) (n : ℕ) → a ≡ Err q → n ≡ refusal_number q → InfoTold o b c u l n b c u l
  unfolding code
  info-refused q n e f = go o (rw e at h)
    where
      go : (o : Outcome TextInfo) → refused (refusal_number q) ≡ o → InfoTold o b c u l n b c u l
      go (value j) h = absurd (let z : ◌≡◌ {A = ℕ} 0 1 = cc in omega arith)
      go (refused k) h =
          let z : n ≡ k = cc in
          record { coded = z; bytes-are = refl; chars-are = refl; surrogates-are = refl; breaks-are = refl }

module _ (s : TextSum) (i : TextInfo) (r : TextSum) where
  pub sum_less : (minus : Bool) → minus ≡ true → Summed r i s → SumTold minus s i r
  sum_less true e h = h
  sum_less false e h = absurd (let z : ◌≡◌ {A = ℕ} 0 1 = cc in omega arith)

  pub sum_more : (minus : Bool) → minus ≡ false → Summed s i r → SumTold minus s i r
  sum_more false e h = h
  sum_more true e h = absurd (let z : ◌≡◌ {A = ℕ} 0 1 = cc in omega arith)
