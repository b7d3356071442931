-- The need, and the note's own part behind it, make up the check of the whole.
use mathlib.Core.Path.{◌≡◌, sym, ap, ◌∙◌}
use mathlib.Core.Bool.{Bool, false, ◌&&◌}
use mathlib.Core.List.{List}
use Prim.Native.Nat.{ℕ, ◌≤◌, ◌<◌}
use native.Mathlib.Omega.{arith}
use lib.Dec.{leb}
use lib.ListN.{length, take}
use lib.Seq.{length-take-le}
use borrow.Author.Tests.{le-leb, lt-leb}
use Rattle.plain.proofs.Logic.{and_none}
use Rattle.plain_note.specs.Note.{need}
use Rattle.note_head.specs.Head.{n_of}
use Rattle.note_head.proofs.Own.{own-n, own-front}
use Rattle.memory.specs.Formed.{need_met, well_formed}
use Rattle.memory.specs.Checks.{own_right, Ready}
use Rattle.memory.proofs.Marks.{none_met, zeros-length, zeros-none}

module _ (m : List ℕ) (n : ℕ) (is : n ≡ n_of m) where
  unmet-need : need_met m ≡ false → false ≡ well_formed m
  unfolding well_formed
  unmet-need e = rw e

  pub few-slots : n < 17 → false ≡ well_formed m
  unfolding need_met
  few-slots h = unmet-need (rw (lt-leb 17 (n_of m) (omega arith)))

  pub many-slots : 4096 < n → false ≡ well_formed m
  unfolding need_met
  many-slots h = unmet-need (ap (λ (t : Bool). leb 17 (n_of m) && (t && leb (need (n_of m)) (length m))) (lt-leb (n_of m) 4096 (omega arith)) ∙ and_none (leb 17 (n_of m)))

  -- the part that is lent to the check, by the need that the head says
  module _ (end : ℕ) (e : end ≡ need (n_of m)) where
    pub short-memory : length m < end → false ≡ well_formed m
    unfolding need_met
    short-memory h =
        unmet-need (ap (λ (t : Bool). leb 17 (n_of m) && (leb (n_of m) 4096 && t)) (lt-leb (need (n_of m)) (length m) (omega arith)) ∙ ap (λ (t : Bool). leb 17 (n_of m) && t) (and_none (leb (n_of m) 4096)) ∙ and_none (leb 17 (n_of m)))

    pub whole-so : 17 ≤ n → n ≤ 4096 → end ≤ length m → (r : Bool) → r ≡ own_right (take end m) → r ≡ well_formed m
    unfolding well_formed own_right need_met
    whole-so l h k r q =
        q ∙ ap own_right (own-front m end e) ∙ sym (rw (le-leb 17 (n_of m) (omega arith), le-leb (n_of m) 4096 (omega arith), le-leb (need (n_of m)) (length m) (omega arith)))

module _ (m : List ℕ) (end : ℕ) (e : end ≡ need (n_of m)) where
  pub part-slots : n_of m ≡ n_of (take end m)
  part-slots = sym (own-n m) ∙ ap n_of (sym (own-front m end e))

  pub part_length : end ≤ length m → length (take end m) ≡ end
  part_length h = length-take-le end m h

-- fresh marks
pub ready-zeros : (m : List ℕ) (n : ℕ) → n ≡ n_of m → 17 ≤ n → n ≤ 4096 → length m ≡ need n → Ready m (take n none_met)
ready-zeros m n e l h k =
    let z = zeros-length n h in
    record { slots = z ∙ e; least = omega arith; most = omega arith; room = k ∙ ap need (sym z); none = λ x i. zeros-none n x h (omega arith) }
