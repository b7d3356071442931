-- The note's own part of the memory, its need: how long it is, and that the head reads the same there.
use mathlib.Core.Path.{◌≡◌, refl, sym, ap, ◌∙◌}
use mathlib.Core.List.{List}
use Prim.Native.Nat.{ℕ, zero, suc, ◌+◌, ◌*◌, ◌≤◌, ◌<◌}
use native.Mathlib.Omega.{arith}
use lib.ListN.{length, take}
use lib.Seq.{get_or-take, length-take-le, take_all}
use Rattle.plain_note.specs.Note.{need, head_size}
use Rattle.octets.specs.Big.{four_at}
use Rattle.pool.specs.Slot.{kid_at}
use Rattle.octets.proofs.Numbers.{four-part}
use Rattle.note_head.specs.Head.{n_of, edit_of, root_of, height_of, free_of, live_at, place_at, mark_at, marks_from, own_of}

four-front : (m : List ℕ) (n j : ℕ) → j + 4 ≤ n → four_at (take n m) j ≡ four_at m j
four-front m n j h = four-part m 0 n j h ∙ ap (four_at m) (sum j)
  where
    sum : (j : ℕ) → 0 + j ≡ j
    sum j = omega arith

-- the head of a front of at least 6,144 bytes
module _ (m : List ℕ) (n : ℕ) (h : head_size ≤ n) where
  pub front-n : n_of (take n m) ≡ n_of m
  unfolding n_of
  front-n = four-front m n 0 (omega arith)

  pub front-edit : edit_of (take n m) ≡ edit_of m
  unfolding edit_of
  front-edit = four-front m n 4 (omega arith)

  pub front-root : root_of (take n m) ≡ root_of m
  unfolding root_of kid_at
  front-root = rw (four-front m n 8 (omega arith), four-front m n 12 (omega arith), four-front m n 16 (omega arith), four-front m n 20 (omega arith), four-front m n 24 (omega arith))

  pub front-height : height_of (take n m) ≡ height_of m
  unfolding height_of
  front-height = get_or-take n m 28 0 (omega arith)

  pub front-free : free_of (take n m) ≡ free_of m
  unfolding free_of
  front-free = four-front m n 32 (omega arith)

  pub front-live : (k : ℕ) → k < 256 → live_at (take n m) k ≡ live_at m k
  unfolding live_at
  front-live k l = get_or-take n m (2048 + 16 * k) 0 (omega arith)

  pub front-place : (k : ℕ) → k < 256 → place_at (take n m) k ≡ place_at m k
  unfolding place_at
  front-place k l = four-front m n (2048 + 16 * k + 4) (omega arith)

  pub front-mark : (k : ℕ) → k < 256 → mark_at (take n m) k ≡ mark_at m k
  unfolding mark_at
  front-mark k l = rw (front-live k l, front-place k l)

  pub front-marks : (k i : ℕ) → k + i ≤ 256 → marks_from (take n m) k i ≡ marks_from m k i
  unfolding marks_from
  front-marks k zero l = refl
  front-marks k (suc i) l = rw (front-mark k (omega arith), front-marks (suc k) i (omega arith))

-- THEOREM: the note's own part reads as the whole memory
module _ (m : List ℕ) where
  pub own-n : n_of (own_of m) ≡ n_of m
  unfolding own_of
  own-n = front-n m (need (n_of m)) (omega arith)

  pub own-edit : edit_of (own_of m) ≡ edit_of m
  unfolding own_of
  own-edit = front-edit m (need (n_of m)) (omega arith)

  pub own_root : root_of (own_of m) ≡ root_of m
  unfolding own_of
  own_root = front-root m (need (n_of m)) (omega arith)

  pub own-height : height_of (own_of m) ≡ height_of m
  unfolding own_of
  own-height = front-height m (need (n_of m)) (omega arith)

  pub own-free : free_of (own_of m) ≡ free_of m
  unfolding own_of
  own-free = front-free m (need (n_of m)) (omega arith)

  pub own-mark : (k : ℕ) → k < 256 → mark_at (own_of m) k ≡ mark_at m k
  unfolding own_of
  own-mark k l = front-mark m (need (n_of m)) (omega arith) k l

  pub own-marks : marks_from (own_of m) 0 256 ≡ marks_from m 0 256
  unfolding own_of
  own-marks = front-marks m (need (n_of m)) (omega arith) 0 256 (omega arith)

  -- and is as long as the need, where that is met
  pub own-length : need (n_of m) ≤ length m → length (own_of m) ≡ need (n_of m)
  unfolding own_of
  own-length h = length-take-le (need (n_of m)) m h

  -- it is a front as long as the need, or all where that is not met
  module _ (end : ℕ) (is : end ≡ need (n_of m)) where
    pub own-front : take end m ≡ own_of m
    unfolding own_of
    own-front = ap (λ (k : ℕ). take k m) is

    pub own-all : length m < end → m ≡ own_of m
    unfolding own_of
    own-all h = sym (take_all (need (n_of m)) m (omega arith))
