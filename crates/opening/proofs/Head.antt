-- A memory that begins with a new head, read: n slots, edit number 0, a root in slot 0 with counts of 0, height 0, the first free slot 1, no mark.
use mathlib.Core.Path.{◌≡◌, refl, sym, ap, ◌∙◌}
use mathlib.Core.List.{List, [], ◌∷◌, ◌++◌}
use Prim.Native.Nat.{ℕ, zero, suc, ◌+◌, ◌-◌, ◌≤◌, ◌<◌}
use native.Mathlib.Omega.{arith}
use lib.ListN.{length, take, get_or, replicate, get_or-replicate, get_or-append}
use lib.Seq.{get_or-take, get_or-append-add}
use Rattle.plain_note.specs.Note.{Mark, Mark.free, head_size}
use Rattle.octets.specs.Big.{two_at, four_at, bytes_of4}
use Rattle.pool.specs.Slot.{kid_at, no_kid}
use Rattle.octets.proofs.Numbers.{four-length, four_same, four-part, four-back}
use Rattle.note_head.specs.Head.{n_of, edit_of, root_of, height_of, free_of, mark_start, live_at, mark_at, marks_from}
use Rattle.opening.specs.Opened.{zero_bytes, new_head}
use Rattle.opening.proofs.Laid.{zeros-length}

-- ── the bytes of a new head ──

behind : (x y : List ℕ) (k j : ℕ) → length x + k ≡ j → get_or (x ++ y) j 0 ≡ get_or y k 0
behind x y k j e = ap (λ (n : ℕ). get_or (x ++ y) n 0) (sym e) ∙ get_or-append-add x y k 0

zero-at : (k i : ℕ) → i < k → get_or (zero_bytes k) i 0 ≡ 0
unfolding zero_bytes
zero-at k i h = get_or-replicate k i 0 0 h

four-none : four_at [] 0 ≡ 0
unfolding four_at two_at
four-none = refl

four-zero : (xs : List ℕ) (i : ℕ) → ((k : ℕ) → k < 4 → get_or xs (i + k) 0 ≡ 0) → four_at xs i ≡ 0
four-zero xs i f = four_same xs [] i 0 f ∙ four-none

module _ (n : ℕ) where
  new-low : (j : ℕ) → 4 ≤ j → j < 32 → get_or (new_head n) j 0 ≡ 0
  unfolding new_head
  new-low j h k =
      let rest = bytes_of4 1 ++ zero_bytes (head_size - 36) in
      behind (bytes_of4 n) (zero_bytes 28 ++ rest) (j - 4) j (omega (arith, four-length n))
      ∙ get_or-append (zero_bytes 28) rest 0 (j - 4) (omega (arith, zeros-length 28))
      ∙ zero-at 28 (j - 4) (omega arith)

  -- from the first free slot on
  new-from : (k : ℕ) → get_or (new_head n) (32 + k) 0 ≡ get_or (bytes_of4 1 ++ zero_bytes (head_size - 36)) k 0
  unfolding new_head
  new-from k =
      let rest = bytes_of4 1 ++ zero_bytes (head_size - 36) in
      behind (bytes_of4 n) (zero_bytes 28 ++ rest) (28 + k) (32 + k) (omega (arith, four-length n))
      ∙ behind (zero_bytes 28) rest k (28 + k) (omega (arith, zeros-length 28))

  new-high : (j : ℕ) → 36 ≤ j → j < head_size → get_or (new_head n) j 0 ≡ 0
  new-high j h k =
      let z : 32 + (4 + (j - 36)) ≡ j = omega arith in
      ap (λ (i : ℕ). get_or (new_head n) i 0) (sym z)
      ∙ new-from (4 + (j - 36))
      ∙ behind (bytes_of4 1) (zero_bytes (head_size - 36)) (j - 36) (4 + (j - 36)) (omega (arith, four-length 1))
      ∙ zero-at (head_size - 36) (j - 36) (omega arith)

  new-n : n < 4294967296 → four_at (new_head n) 0 ≡ n
  unfolding new_head
  new-n h = four-back n (zero_bytes 28 ++ (bytes_of4 1 ++ zero_bytes (head_size - 36))) h

  new-zero : (j : ℕ) → 4 ≤ j → j + 4 ≤ 32 → four_at (new_head n) j ≡ 0
  new-zero j h k = four-zero (new_head n) j (λ i l. new-low (j + i) (omega arith) (omega arith))

  new-free : four_at (new_head n) 32 ≡ 1
  new-free =
      let rest = bytes_of4 1 ++ zero_bytes (head_size - 36) in
      let z : (k : ℕ) → k ≡ 0 + k = λ k. omega arith in
      four_same (new_head n) rest 32 0 (λ k l. new-from k ∙ ap (λ (i : ℕ). get_or rest i 0) (z k)) ∙ four-back 1 (zero_bytes (head_size - 36)) (omega arith)

-- ── a memory that begins with it ──

module _ (m : List ℕ) (n : ℕ) (e : take head_size m ≡ new_head n) where
  byte-is : (j : ℕ) → j < head_size → get_or m j 0 ≡ get_or (new_head n) j 0
  byte-is j h = sym (get_or-take head_size m j 0 h) ∙ ap (λ (l : List ℕ). get_or l j 0) e

  four_is : (j : ℕ) → j + 4 ≤ head_size → four_at m j ≡ four_at (new_head n) j
  four_is j h =
      let z : j ≡ 0 + j = omega arith in
      ap (four_at m) z ∙ sym (four-part m 0 head_size j h) ∙ ap (λ (l : List ℕ). four_at l j) e

  zero_is : (j : ℕ) → 4 ≤ j → j + 4 ≤ 32 → four_at m j ≡ 0
  zero_is j h k = four_is j (omega arith) ∙ new-zero n j h k

  pub n-is : n < 4294967296 → n_of m ≡ n
  unfolding n_of
  n-is h = four_is 0 (omega arith) ∙ new-n n h

  pub edit-is : edit_of m ≡ 0
  unfolding edit_of
  edit-is = zero_is 4 (omega arith) (omega arith)

  pub root_is : root_of m ≡ no_kid
  unfolding root_of kid_at
  root_is =
      rw (
        zero_is 8 (omega arith) (omega arith),
        zero_is 12 (omega arith) (omega arith),
        zero_is 16 (omega arith) (omega arith),
        zero_is 20 (omega arith) (omega arith),
        zero_is 24 (omega arith) (omega arith),
      )

  pub height-is : height_of m ≡ 0
  unfolding height_of
  height-is = byte-is 28 (omega arith) ∙ new-low n 28 (omega arith) (omega arith)

  pub free-is : free_of m ≡ 1
  unfolding free_of
  free-is = four_is 32 (omega arith) ∙ new-free n

  -- THEOREM: no mark is live
  pub live-is : (k : ℕ) → k < 256 → live_at m k ≡ 0
  unfolding live_at
  live-is k h = byte-is (mark_start k) (omega arith) ∙ new-high n (mark_start k) (omega arith) (omega arith)

  marks-are : (k i : ℕ) → k + i ≤ 256 → marks_from m k i ≡ replicate i free
  unfolding marks_from mark_at
  marks-are k zero h = refl
  marks-are k (suc i) h = rw (live-is k (omega arith)) (ap (λ (l : List Mark). free ∷ l) (marks-are (suc k) i (omega arith)))

  pub marks-free : marks_from m 0 256 ≡ replicate 256 free
  marks-free = marks-are 0 256 (omega arith)
