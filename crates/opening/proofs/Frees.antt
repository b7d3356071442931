-- The laws of slots made free one behind the other: each names the next, and nothing else changes.
use mathlib.Core.Path.{◌≡◌, refl, sym, ap, subst, ◌∙◌}
use mathlib.Core.List.{List}
use Prim.Native.Nat.{ℕ, zero, suc, ◌+◌, ◌≤◌, ◌<◌}
use native.Mathlib.Omega.{arith}
use lib.ListN.{length, take, drop, get_or}
use Rattle.plain_note.specs.Note.{head_size}
use Rattle.plain.proofs.Logic.{cut}
use Rattle.octets.specs.Big.{four_at}
use Rattle.pool.specs.Slot.{slot_start, slot_of, kind_of, next_of, head_bytes, head_put}
use Rattle.octets.proofs.Over.{over-rest}
use Rattle.pool.proofs.Slots.{head-kind, head-next, head-others, head-front, head-size, head-length}
use Rattle.opening.specs.Opened.{frees_put}

-- what no head of a slot from `low` up to `end` changes
module _ {A : Type 0} (low end : ℕ) (f : List ℕ → A) (g : (m : List ℕ) (i : ℕ) → low ≤ i → i < end → slot_start end ≤ length m → f (head_put m i 0 0 (i + 1)) ≡ f m) where
  frees_stay : (m : List ℕ) (s k : ℕ) → low ≤ s → s + k ≤ end → slot_start end ≤ length m → f (frees_put m s k) ≡ f m
  unfolding frees_put
  frees_stay m s zero l e h = refl
  frees_stay m s (suc k) l e h =
      frees_stay (head_put m s 0 0 (s + 1)) (s + 1) k (omega arith) (omega arith) (omega (arith, head-size m s 0 0 (s + 1) (omega arith)))
      ∙ g m s l (omega arith) h

module _ (m : List ℕ) (s k : ℕ) (h : slot_start (s + k) ≤ length m) where
  pub frees-size : length (frees_put m s k) ≡ length m
  frees-size = frees_stay s (s + k) length (λ l i a b g. head-size l i 0 0 (i + 1) (omega arith)) m s k (omega arith) (omega arith) h

  pub frees-front : take head_size (frees_put m s k) ≡ take head_size m
  frees-front = frees_stay s (s + k) (take head_size) (λ l i a b g. head-front l i 0 0 (i + 1) (omega arith)) m s k (omega arith) (omega arith) h

  pub frees-others : (t : ℕ) → t < s → slot_of (frees_put m s k) t ≡ slot_of m t
  frees-others t n = frees_stay s (s + k) (λ (l : List ℕ). slot_of l t) (λ l i a b g. head-others l i 0 0 (i + 1) (omega arith) t (λ e. omega arith)) m s k (omega arith) (omega arith) h

  pub frees-behind : (q : ℕ) → slot_start (s + k) ≤ q → drop q (frees_put m s k) ≡ drop q m
  frees-behind q n =
      frees_stay s (s + k) (drop q)
      (λ l i a b g. over-rest (slot_start i) (head_bytes 0 0 (i + 1)) l (omega (arith, head-length 0 0 (i + 1))) q (omega (arith, head-length 0 0 (i + 1)))) m s k (omega arith) (omega arith) h

-- THEOREM: each of them is free, and names the one behind it
pub frees-slot : (m : List ℕ) (s k t : ℕ) → slot_start (s + k) ≤ length m → s + k < 4294967296 → s ≤ t → t < s + k → (kind_of (frees_put m s k) t ≡ 0) × (next_of (frees_put m s k) t ≡ t + 1)
unfolding frees_put
frees-slot m s zero t h w a b = absurd (omega arith)
frees-slot m s (suc k) t h w a b =
    let l = head_put m s 0 0 (s + 1) in
    let there : slot_start s + 640 ≤ length m = omega arith in
    let room : slot_start (s + 1 + k) ≤ length l = omega (arith, head-size m s 0 0 (s + 1) there) in
    cut s t (λ n. frees-slot l (s + 1) k t room (omega arith) (omega arith) (omega arith))
    (λ n. let e : t ≡ s = omega arith in
    let same = frees-others l (s + 1) k room s (omega arith) in
    subst (λ (j : ℕ). (kind_of (frees_put l (s + 1) k) j ≡ 0) × (next_of (frees_put l (s + 1) k) j ≡ j + 1)) (sym e)
    (ap (λ (b : List ℕ). get_or b 0 0) same ∙ head-kind m s 0 0 (s + 1) there, ap (λ (b : List ℕ). four_at b 4) same ∙ head-next m s 0 0 (s + 1) there (omega arith)))
