-- What a turn of opening's loop does, what its writes come to one behind the other, and which rule a test of its code is.
use Rattle.answer.specs.Answers.{Answer}
use Rattle.std.specs.Prelude.{Err}
use mathlib.Core.Path.{◌≡◌, sym, ap, ◌∙◌}
use mathlib.Core.Bool.{true}
use mathlib.Core.List.{List, [], ◌∷◌, ◌++◌, append_assoc}
use Prim.Native.Nat.{ℕ, suc, ◌+◌, ◌-◌, ◌≤◌, ◌<◌}
use native.Mathlib.Omega.{arith}
use lib.Dec.{ltb}
use lib.ListN.{length, length-append, length-replicate}
use borrow.Author.Tests.{lt-ltb, le-ltb}
use Rattle.plain.specs.Outcome.{Outcome, Outcome.value, Outcome.refused, past, kept}
use Rattle.plain.proofs.Logic.{or_left, or_right, or-none}
use Rattle.plain.proofs.Outcome.{rule-passed, one-applies, one-passed}
use Rattle.plain_note.specs.Note.{need, head_size}
use Rattle.answer.specs.declared.Refusal.{Refusal}
use Rattle.octets.specs.Over.{overlaid}
use Rattle.octets.proofs.Over.{overlaid-length, over-join}
use Rattle.octets.specs.Big.{bytes_of4}
use Rattle.pool.specs.Slot.{slot_start, head_put}
use Rattle.pool.specs.Calls.{outside, head_set, Wrote}
use Rattle.pool.proofs.Opened.{wrote-never}
use Rattle.octets.proofs.Numbers.{four-length}
use Rattle.note_head.specs.Writes.{number_set}
use Rattle.note_head.proofs.Laid.{number-there}
use Rattle.opening.specs.Opened.{zero_bytes, new_head, frees_put, opened_memory, misfit, opens}

-- ── zeros ──

pub zeros-length : (k : ℕ) → length (zero_bytes k) ≡ k
unfolding zero_bytes
zeros-length k = length-replicate k 0

-- ── the head, part by part ──

pub new-length : (n : ℕ) → length (new_head n) ≡ head_size
unfolding new_head
new-length n =
    omega (
      arith,
      length-append (bytes_of4 n) (zero_bytes 28 ++ (bytes_of4 1 ++ zero_bytes (head_size - 36))),
      length-append (zero_bytes 28) (bytes_of4 1 ++ zero_bytes (head_size - 36)),
      length-append (bytes_of4 1) (zero_bytes (head_size - 36)),
      four-length n,
      four-length 1,
      zeros-length 28,
      zeros-length (head_size - 36),
    )

pub head-laid : (m m₁ m₂ m₃ m₄ : List ℕ) (n : ℕ) (v u : Answer (Unit {0})) → head_size ≤ length m → Wrote (number_set m 0 n) m v m₁ → m₂ ≡ overlaid 4 (zero_bytes 28) m₁ → Wrote (number_set m₂ 32 1) m₂ u m₃
    → m₄ ≡ overlaid 36 (zero_bytes (head_size - 36)) m₃ → m₄ ≡ overlaid 0 (new_head n) m
unfolding new_head
head-laid m m₁ m₂ m₃ m₄ n v u h w₁ e₂ w₃ e₄ =
    let a = bytes_of4 n in
    let b = zero_bytes 28 in
    let c = bytes_of4 1 in
    let d = zero_bytes (head_size - 36) in
    let la = four-length n in
    let lb = zeros-length 28 in
    let lc = four-length 1 in
    let lab = length-append a b in
    let labc = length-append (a ++ b) c in
    let e₁ = number-there m h v m₁ 0 n w₁ in
    let long₁ : length m₁ ≡ length m = ap length e₁ ∙ overlaid-length 0 a m (omega arith) in
    let long₂ : length m₂ ≡ length m = ap length e₂ ∙ overlaid-length 4 b m₁ (omega arith) ∙ long₁ in
    let e₃ = number-there m₂ (omega arith) u m₃ 32 1 w₃ in
    e₄
    ∙ ap (overlaid 36 d) (e₃ ∙ ap (overlaid 32 c) (e₂ ∙ ap (overlaid 4 b) e₁ ∙ over-join 0 4 a b m (omega arith) (omega arith)) ∙ over-join 0 32 (a ++ b) c m (omega arith) (omega arith))
    ∙ over-join 0 36 ((a ++ b) ++ c) d m (omega arith) (omega arith)
    ∙ ap (λ (x : List ℕ). overlaid 0 x m) (append_assoc (a ++ b) c d ∙ append_assoc a b (c ++ d))

-- ── the free slots, one by one ──

module _ (m : List ℕ) (s kind len most next : ℕ) where
  head-it : slot_start s + 640 ≤ length m → len ≤ most → head_set m s kind len most next ≡ value (head_put m s kind len next)
  unfolding head_set
  head-it h l =
      let p = head_put m s kind len next in
      rule-passed 2 (outside m s) ((11, past len most) ∷ []) p (le-ltb (length m) (slot_start s + 640) h) ∙ one-passed 11 (past len most) p (le-ltb most len l)

  module _ (v : Answer (Unit {0})) (after : List ℕ) (w : Wrote (head_set m s kind len most next) m v after) (h : slot_start s + 640 ≤ length m) (l : len ≤ most) where
    pub head-set : after ≡ head_put m s kind len next
    head-set = w.memory ∙ ap (λ (o : Outcome (List ℕ)). kept m o) (head-it h l)

    pub head_never : {X : Type 0} (q : Refusal) → v ≡ Err q → X
    head_never q f = wrote-never _ m v after w _ (head-it h l) q f

pub free-turn : (m l : List ℕ) (i n : ℕ) → i < n → l ≡ head_put m i 0 0 (i + 1) → frees_put l (i + 1) (n - (i + 1)) ≡ frees_put m i (n - i)
unfolding frees_put
free-turn m l i n h e =
    let z : n - i ≡ suc (n - (i + 1)) = omega arith in
    ap (λ (x : List ℕ). frees_put x (i + 1) (n - (i + 1))) e ∙ sym (ap (frees_put m i) z)

pub free-end : (m : List ℕ) (i n : ℕ) → n ≤ i → m ≡ frees_put m i (n - i)
unfolding frees_put
free-end m i n h = let z : n - i ≡ 0 = omega arith in sym (ap (frees_put m i) z)

-- ── the rule ──

module _ (m : List ℕ) (n : ℕ) where
  misfits : misfit n (length m) ≡ true → opens m n ≡ refused 1
  unfolding opens
  misfits e = one-applies 1 (misfit n (length m)) (opened_memory m n) e

  pub opens-few : n < 17 → opens m n ≡ refused 1
  opens-few h = misfits (or_left (ltb n 17) _ (lt-ltb n 17 h))

  pub opens-many : 4096 < n → opens m n ≡ refused 1
  opens-many h = misfits (or_right (ltb n 17) _ (or_left (past n 4096) _ (lt-ltb 4096 n h)))

  pub opens-short : length m < need n → opens m n ≡ refused 1
  opens-short h = misfits (or_right (ltb n 17) _ (or_right (past n 4096) _ (lt-ltb (length m) (need n) h)))

  pub opened-laid : (m₁ m₂ m₃ : List ℕ) → m₁ ≡ overlaid 0 (new_head n) m → m₂ ≡ head_put m₁ 0 1 0 0 → m₃ ≡ frees_put m₂ 1 (n - 1) → m₃ ≡ opened_memory m n
  unfolding opened_memory
  opened-laid m₁ m₂ m₃ e₁ e₂ e₃ = e₃ ∙ ap (λ (x : List ℕ). frees_put x 1 (n - 1)) (e₂ ∙ ap (λ (x : List ℕ). head_put x 0 1 0 0) e₁)

  pub opens-it : 17 ≤ n → n ≤ 4096 → need n ≤ length m → opens m n ≡ value (opened_memory m n)
  unfolding opens
  opens-it l u h =
      one-passed 1 (misfit n (length m)) (opened_memory m n)
      (or-none (ltb n 17) _ (le-ltb n 17 l) (or-none (past n 4096) (past (need n) (length m)) (le-ltb 4096 n u) (le-ltb (length m) (need n) h)))
