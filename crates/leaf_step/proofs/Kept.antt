-- A memory whose free slots are as they were: it is slotted as before, and its free slots are the same.
use mathlib.Core.Path.{◌≡◌, sym, ap, ◌∙◌}
use mathlib.Core.List.{List}
use Prim.Native.Nat.{ℕ, ◌≤◌}
use lib.ListN.{length, take, drop}
use lib.Seq.{take-take}
use native.Mathlib.Omega.{arith}
use Rattle.plain_note.specs.Note.{head_size}
use Rattle.pool.specs.Slot.{slot_of}
use Rattle.note_head.specs.Head.{n_of, free_of}
use Rattle.note_head.proofs.Own.{front-n, front-free}
use Rattle.memory.specs.Formed.{frees, chained}
use Rattle.edit_steps.specs.Became.{free, spare, Slotted}
use Rattle.edit_steps.proofs.Chains.{below-same, KeptChain, kept-chain}

module _ (m later : List ℕ) (n : ℕ) (w : Slotted m n) (size : length later ≡ length m) (stored : n_of later ≡ n_of m) (first : free_of later ≡ free_of m)
    (alike : (x : ℕ) → 1 ≤ free m n x → slot_of later x ≡ slot_of m x) where
  chain-kept : KeptChain m later n n (free_of m)
  chain-kept = kept-chain m later n n (free_of m) w.chain alike

  pub free-kept : (x : ℕ) → free later n x ≡ free m n x
  free-kept x = ap (λ (s : ℕ). frees later n n s x) first ∙ chain-kept.same x

  pub slotted_kept : Slotted later n
  slotted_kept =
      record {
        long = size ∙ w.long;
        stored = stored ∙ w.stored;
        chain = ap (chained later n n) first ∙ chain-kept.chain;
        once = λ x. omega (arith, free-kept x, w.once x);
      }

  pub spare-kept : spare later n ≡ spare m n
  spare-kept = below-same n (free later n) (free m n) free-kept

-- two memories with the same head
module _ (m later : List ℕ) (e : take head_size later ≡ take head_size m) where
  pub same-n : n_of later ≡ n_of m
  same-n = sym (front-n later head_size (omega arith)) ∙ ap n_of e ∙ front-n m head_size (omega arith)

  pub same-free : free_of later ≡ free_of m
  same-free = sym (front-free later head_size (omega arith)) ∙ ap free_of e ∙ front-free m head_size (omega arith)

  pub same-front : take 32 later ≡ take 32 m
  same-front = sym (take-take 32 head_size later (omega arith)) ∙ ap (take 32) e ∙ take-take 32 head_size m (omega arith)

  pub same_rest : drop 36 (take head_size later) ≡ drop 36 (take head_size m)
  same_rest = ap (drop 36) e
