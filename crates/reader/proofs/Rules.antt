-- What the functions on memory and place come to, from what those below answered.
use Rattle.answer.specs.Answers.{Answer, outcome}
use Rattle.std.specs.Prelude.{Ok, Err}
use mathlib.Core.Path.{◌≡◌, sym}
use mathlib.Core.List.{List, []}
use Prim.Native.Nat.{ℕ, ◌≤◌, ◌<◌}
use borrow.Author.Tests.{lt-ltb, le-ltb}
use Rattle.plain_note.specs.Note.{read_from}
use Rattle.answer.specs.declared.Refusal.{Refusal}
use Rattle.note_head.specs.Head.{root_of, own_of}
use Rattle.memory.specs.Formed.{of_note}
use Rattle.leaf_parts.specs.Parts.{from_char}
use Rattle.runs.proofs.Rules.{Said, part_none, part-some}
use Rattle.reader.specs.Handed.{pool_at, run_at}

module _ (m : List ℕ) (p : ℕ) where
  module _ (v : Answer (Unit {0})) (said : outcome v ≡ Said (of_note m (λ N. read_from N p))) where
    pub pool-none : (q : Refusal) → v ≡ Err q → ◌≡◌ {A = List ℕ} [] (pool_at m p)
    unfolding pool_at
    pool-none q e = part_none v m (of_note m (λ N. read_from N p)) q said e

    pub pool-some : v ≡ (Ok tt) → m ≡ pool_at m p
    unfolding pool_at
    pool-some e = sym (part-some v m (of_note m (λ N. read_from N p)) said e)

  -- k chars are what the head says
  module _ (k : ℕ) (stored : k ≡ (root_of m).info.chars) where
    pub run-here : p < k → run_at m p ≡ from_char (own_of m) p
    unfolding run_at
    run-here h = rw (← stored, lt-ltb p k h)

    pub run-over : k ≤ p → run_at m p ≡ []
    unfolding run_at
    run-over h = rw (← stored, le-ltb p k h)
