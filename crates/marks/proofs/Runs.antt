-- Marks in runs: a run of free ones stays as it is, and a run behind others moved.
use Rattle.std.proofs.Common.{◌≡◌, ℕ, zero, suc, ◌+◌, List, sym, refl, ap, ◌∙◌, add-one, arith}
use Rattle.note_head.specs.Head.{live_at}
use Rattle.marks.specs.MarkBytes.{mark_moved, run_moved, live_bytes, marks_moved}
use Rattle.marks.proofs.Rules.{moves-free}

module _ (m : List ℕ) (k : ℕ) where
  pub bytes-none : live_bytes m k 0 ≡ 0
  unfolding live_bytes
  bytes-none = refl

  pub bytes-more : (n : ℕ) → live_bytes m k n + live_at m (k + n) ≡ live_bytes m k (n + 1)
  unfolding live_bytes
  bytes-more n = sym (ap (live_bytes m k) (add-one n))

module _ (f : ℕ → ℕ) (m : List ℕ) where
  module _ (k : ℕ) where
    pub run_none : run_moved f m k 0 ≡ m
    unfolding run_moved
    run_none = refl

    pub run_more : (n : ℕ) → mark_moved f (run_moved f m k n) (k + n) ≡ run_moved f m k (n + 1)
    unfolding run_moved
    run_more n = sym (ap (run_moved f m k) (add-one n))

    -- where the bytes add up to 0 no mark is live
    pub run-free : (n : ℕ) → live_bytes m k n ≡ 0 → run_moved f m k n ≡ m
    unfolding run_moved live_bytes
    run-free zero e = refl
    run-free (suc n) e =
        ap (λ (x : List ℕ). mark_moved f x (k + n)) (run-free n (omega (arith, e)))
        ∙ moves-free f m (k + n) (λ l. omega (arith, e))

  pub run-behind : (k n : ℕ) → run_moved f (marks_moved f m k) k n ≡ marks_moved f m (k + n)
  unfolding run_moved marks_moved
  run-behind k zero = let z : k ≡ k + 0 = omega arith in ap (marks_moved f m) z
  run-behind k (suc n) =
      let z : suc (k + n) ≡ k + suc n = omega arith in
      ap (λ (x : List ℕ). mark_moved f x (k + n)) (run-behind k n) ∙ ap (marks_moved f m) z
