-- The laws of `Kept`: when it holds, and what the head then reads as before.
use mathlib.Core.Path.{◌≡◌, refl, sym, ap, ◌∙◌}
use mathlib.Core.List.{List}
use Prim.Native.Nat.{ℕ, zero, suc, ◌+◌, ◌-◌, ◌≤◌, ◌<◌}
use native.Mathlib.Omega.{arith}
use lib.ListN.{take, drop, get_or}
use lib.Seq.{get_or-take, get_or-drop, take-take}
use Rattle.plain_note.specs.Note.{head_size}
use Rattle.plain.proofs.Logic.{cut}
use Rattle.octets.proofs.Over.{part-is}
use Rattle.octets.specs.Big.{four_at}
use Rattle.octets.proofs.Numbers.{four-part}
use Rattle.note_head.specs.Head.{n_of, edit_of, mark_start, live_at, place_at, mark_at, marks_from}
use Rattle.edit_steps.specs.Held.{Kept}

pub kept_same : (m : List ℕ) → Kept m m
kept_same m = record { front = refl; middle = refl; rest = refl }

pub kept-twice : (m a later : List ℕ) → Kept m a → Kept a later → Kept m later
kept-twice m a later k l = record { front = l.front ∙ k.front; middle = l.middle ∙ k.middle; rest = l.rest ∙ k.rest }

pub kept_back : (m later : List ℕ) → Kept m later → Kept later m
kept_back m later k = record { front = sym k.front; middle = sym k.middle; rest = sym k.rest }

-- where of the head the first free slot alone may have changed
pub kept-but-free : (m later : List ℕ) → take 32 later ≡ take 32 m → drop 36 (take head_size later) ≡ drop 36 (take head_size m) → Kept m later
kept-but-free m later e f =
    record {
      front = sym (take-take 8 32 later (omega arith)) ∙ ap (take 8) e ∙ take-take 8 32 m (omega arith);
      middle = rw e;
      rest = f;
    }

-- a number before the root, a byte from a place on, a number behind the first free slot
four-front : (m : List ℕ) (j : ℕ) → j + 4 ≤ 8 → four_at (take 8 m) j ≡ four_at m j
four-front m j h = let z : 0 + j ≡ j = omega arith in four-part m 0 8 j h ∙ ap (four_at m) z

byte-from : (a b : ℕ) (m : List ℕ) (j : ℕ) → a + j < b → get_or (drop a (take b m)) j 0 ≡ get_or m (a + j) 0
byte-from a b m j h = get_or-drop a (take b m) j 0 ∙ get_or-take b m (a + j) 0 h

module _ (m : List ℕ) (j : ℕ) where
  four-rest : 36 + j + 4 ≤ head_size → four_at (drop 36 (take head_size m)) j ≡ four_at m (36 + j)
  four-rest h = ap (λ (l : List ℕ). four_at l j) (part-is 36 head_size m) ∙ four-part m 36 (head_size - 36) j (omega arith)

module _ (m later : List ℕ) (k : Kept m later) where
  four-head : (j : ℕ) → j + 4 ≤ 8 → four_at later j ≡ four_at m j
  four-head j h = sym (four-front later j h) ∙ ap (λ (l : List ℕ). four_at l j) k.front ∙ four-front m j h

  byte-part : (a b : ℕ) → drop a (take b later) ≡ drop a (take b m) → (i : ℕ) → a ≤ i → i < b → get_or later i 0 ≡ get_or m i 0
  byte-part a b e i l h =
      let j = i - a in
      let z : i ≡ a + j = omega arith in
      ap (λ (q : ℕ). get_or later q 0) z
      ∙ sym (byte-from a b later j (omega arith))
      ∙ ap (λ (r : List ℕ). get_or r j 0) e
      ∙ byte-from a b m j (omega arith)
      ∙ sym (ap (λ (q : ℕ). get_or m q 0) z)

  byte-kept : (i : ℕ) → 36 ≤ i → i < head_size → get_or later i 0 ≡ get_or m i 0
  byte-kept = byte-part 36 head_size k.rest

  -- THEOREM: every byte of the head but those of the root, of the height and of the first free slot is as it was
  pub kept_byte : (i : ℕ) → i < head_size → (8 ≤ i → i ≤ 28 → ⊥) → (32 ≤ i → i ≤ 35 → ⊥) → get_or later i 0 ≡ get_or m i 0
  kept_byte i h tree free =
      cut i 8 (λ l. sym (get_or-take 8 later i 0 l) ∙ ap (λ (x : List ℕ). get_or x i 0) k.front ∙ get_or-take 8 m i 0 l)
      (λ l.
      cut i 32 (byte-part 29 32 k.middle i (cut i 29 (λ q. absurd (tree l (omega arith))) (λ q. q)))
      (λ q. byte-part 36 head_size k.rest i (cut i 36 (λ r. absurd (free q (omega arith))) (λ r. r)) h))

  four-kept : (i : ℕ) → 36 ≤ i → i + 4 ≤ head_size → four_at later i ≡ four_at m i
  four-kept i l h =
      let j = i - 36 in
      let z : i ≡ 36 + j = omega arith in
      ap (four_at later) z
      ∙ sym (four-rest later j (omega arith))
      ∙ ap (λ (r : List ℕ). four_at r j) k.rest
      ∙ four-rest m j (omega arith)
      ∙ sym (ap (four_at m) z)

  -- THEOREM: the number of slots, the edit number and the marks are as they were
  pub kept-n : n_of later ≡ n_of m
  unfolding n_of
  kept-n = four-head 0 (omega arith)

  pub kept-edit : edit_of later ≡ edit_of m
  unfolding edit_of
  kept-edit = four-head 4 (omega arith)

  pub kept-live : (i : ℕ) → i < 256 → live_at later i ≡ live_at m i
  unfolding live_at
  kept-live i l = byte-kept (mark_start i) (omega arith) (omega arith)

  pub kept-place : (i : ℕ) → i < 256 → place_at later i ≡ place_at m i
  unfolding place_at
  kept-place i l = four-kept (mark_start i + 4) (omega arith) (omega arith)

  kept-mark : (i : ℕ) → i < 256 → mark_at later i ≡ mark_at m i
  unfolding mark_at
  kept-mark i l = rw (kept-live i l, kept-place i l)

  pub kept-marks : (i j : ℕ) → i + j ≤ 256 → marks_from later i j ≡ marks_from m i j
  unfolding marks_from
  kept-marks i zero l = refl
  kept-marks i (suc j) l = rw (kept-mark i (omega arith), kept-marks (suc i) j (omega arith))
