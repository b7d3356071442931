-- The laws of `Held`: well-formed memory holds its note, and memory that holds one within its size and has its marks right is well formed. What an
-- edit needs is always there: a low tree, and slots that are free.
use mathlib.Core.Path.{◌≡◌, refl, sym, ap, ◌∙◌}
use mathlib.Core.Bool.{true}
use mathlib.Core.List.{List}
use Prim.Native.Nat.{ℕ, ◌+◌, ◌≤◌, ◌<◌}
use native.Mathlib.Omega.{arith}
use lib.Dec.{eqb}
use lib.ListN.{length}
use borrow.Author.Tests.{eq-eqb}
use Rattle.plain.specs.Utf8.{valid_utf8}
use Rattle.plain.proofs.Logic.{cut}
use Rattle.plain_note.specs.Note.{need, limit}
use Rattle.tree.specs.Tree.{least_root}
use Rattle.tree.proofs.Sound.{valid-below}
use Rattle.tree.proofs.Within.{uses-within}
use Rattle.note_head.specs.Head.{root_of, height_of, free_of}
use Rattle.memory.specs.Formed.{frees, note_bytes, in_tree}
use Rattle.memory.proofs.Below.{below_all}
use Rattle.memory.proofs.Chain.{frees-past}
use Rattle.memory.proofs.Formed.{MarkRight, OwnFormed}
use Rattle.memory.proofs.Room.{low, roomy}
use Rattle.edit_steps.specs.Became.{free, spare}
use Rattle.edit_steps.specs.Held.{Held}

-- no slot from n on is free
past-free : (m : List ℕ) (n x : ℕ) → n ≤ x → free m n x ≡ 0
past-free m n x l = frees-past m n n (free_of m) x l

module _ (m : List ℕ) (n : ℕ) where
  -- THEOREM: well-formed memory holds its note
  pub own_held : OwnFormed m n → 17 ≤ n → n ≤ 4096 → length m ≡ need n → Held m n (note_bytes m)
  own_held f least most long =
      record {
        least = least;
        most = most;
        slotted = record {
          long = long;
          stored = f.slots;
          chain = f.chain;
          once = λ x. cut x n (λ l. omega (arith, one x l)) (λ l. omega (arith, past-free m n x l));
        };
        good = f.good;
        told = f.told;
        each = one;
        bytes = refl;
        size = omega (arith, f.size);
      }
    where
      one : (x : ℕ) → x < n → in_tree m x + free m n x ≡ 1
      one x l = ap (λ (j : ℕ). in_tree m x + frees m j j (free_of m) x) (sym f.slots) ∙ f.each x l

  module _ (t : List ℕ) (w : Held m n t) where
    -- THEOREM: and back, where the note is within its size and its marks are right
    pub held-own : length t ≤ limit n → ((k : ℕ) → k < 256 → MarkRight m k) → OwnFormed m n
    held-own h marks =
        record {
          slots = w.slotted.stored;
          good = w.good;
          told = w.told;
          chain = w.slotted.chain;
          each = λ x l. ap (λ (j : ℕ). in_tree m x + frees m j j (free_of m) x) w.slotted.stored ∙ w.each x l;
          size = omega (arith, ap length w.bytes);
          marks = marks;
        }

    long-enough : length (note_bytes m) ≤ limit n + 1
    long-enough = omega (arith, w.size, ap length w.bytes)

    -- THEOREM: 16 slots at least are free
    pub held-room : 16 ≤ spare m n
    held-room =
        roomy m n w.slotted.long w.most (height_of m) (root_of m).slot (free m n) w.least w.good long-enough
        (below_all (λ x. eqb (in_tree m x + free m n x) 1) n (λ x l. eq-eqb (in_tree m x + free m n x) 1 (w.each x l)))

    -- THEOREM: the tree is low
    pub held_low : height_of m ≤ 5
    held_low = low m n w.slotted.long w.most (height_of m) (root_of m).slot w.good long-enough

    -- THEOREM: the bytes are a text
    pub held-valid : valid_utf8 t ≡ true
    held-valid = sym (ap valid_utf8 w.bytes) ∙ valid-below m (least_root (height_of m)) (height_of m) (root_of m).slot w.good

    -- THEOREM: each slot is in the tree once, or free
    pub held-once : (x : ℕ) → in_tree m x + free m n x ≤ 1
    held-once x =
        cut x n (λ l. omega (arith, w.each x l))
        (λ l. omega (arith, past-free m n x l, uses-within m (least_root (height_of m)) (height_of m) (root_of m).slot x w.good (omega (arith, w.slotted.long))))
