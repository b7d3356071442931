-- No second outcome of a field: what became of it is settled, and so is the memory but for what the tree's shape leaves open behind an edit.
use mathlib.Core.Path.{◌≡◌, sym, ap, ◌∙◌}
use mathlib.Core.List.{List, []}
use Prim.Native.Nat.{ℕ}
use lib.ListN.{length, drop}
use Rattle.plain.specs.Outcome.{Outcome, Outcome.value, Outcome.refused}
use Rattle.plain_note.specs.Note.{need}
use Rattle.plain_calls.specs.Calls.{Call, Call.insert, Call.remove, Call.set_mark, Call.drop_mark, Call.look, Said, inserting, removing, setting, called}
use Rattle.note_head.specs.Head.{n_of}
use Rattle.memory.specs.Formed.{note_of}
use Rattle.edit_steps.specs.Held.{Kept}
use Rattle.marks.specs.MarkBytes.{mark_put}
use Rattle.demands.proofs.Unique.{one_answer, one-note, one-head, one-memory}
use Rattle.plain_journal.specs.Replay.{code_of}
use Rattle.journal_fields.specs.declared.Done.{Done}
use Rattle.journal_fields.specs.declared.Done.TheVariants.{Code}
use Rattle.journal_fields.specs.Applied.{Applied}
use Rattle.journal_fields.proofs.Laws.{promised-steps}

-- the same note, as long, and the same beyond the need
pub record Alike (m x y : List ℕ) : Type 0 where
  pub note : note_of x ≡ note_of y
  pub long : length x ≡ length y
  pub beyond : drop (need (n_of m)) x ≡ drop (need (n_of m)) y

-- the bytes of the head beside the tree's after an edit, every byte after a mark or a bad field
abbrev pub Bytes : Outcome Call → List ℕ → List ℕ → Type 0
Bytes (refused q) x y = x ≡ y
Bytes (value (insert p piece)) x y = Kept x y
Bytes (value (remove s e)) x y = Kept x y
Bytes (value (set_mark p)) x y = x ≡ y
Bytes (value (drop_mark k)) x y = x ≡ y
Bytes (value (look l)) x y = x ≡ y

module _ (m : List ℕ) (r s : Done) (x y : List ℕ) where
  -- THEOREM: what became of it.
  pub one-done : (f : Outcome Call) → Applied f m r x → Applied f m s y → r ≡ s
  one-done (refused q) v w = v.1 ∙ sym w.1
  one-done (value c) v w =
      v.1
      ∙ ap (λ (a : Outcome Said). Code (code_of a)) (one_answer (λ N. called N c) m v.0 w.0 x y (promised-steps c m v.0 x v.2) (promised-steps c m w.0 y w.2))
      ∙ sym w.1

  -- THEOREM: the note, and what lies beyond the need.
  pub one_left : (f : Outcome Call) → Applied f m r x → Applied f m s y → Alike m x y
  one_left (refused q) v w =
      let same : x ≡ y = v.2 ∙ sym w.2 in
      record { note = ap (λ (l : List ℕ). note_of l) same; long = ap length same; beyond = ap (drop (need (n_of m))) same }
  one_left (value c) v w =
      let a = one-note (λ N. called N c) m v.0 w.0 x y (promised-steps c m v.0 x v.2) (promised-steps c m w.0 y w.2) in
      record { note = a.note; long = a.long; beyond = a.beyond }

  -- THEOREM: the bytes.
  pub one-bytes : (f : Outcome Call) → Applied f m r x → Applied f m s y → Bytes f x y
  one-bytes (refused q) v w = v.2 ∙ sym w.2
  one-bytes (value (insert p piece)) v w = one-head (λ N. inserting N p piece) p p piece m v.2.0 w.2.0 x y v.2.2 w.2.2
  one-bytes (value (remove a e)) v w = one-head (λ N. removing N a e) a e [] m v.2.0 w.2.0 x y v.2.2 w.2.2
  one-bytes (value (set_mark p)) v w = one-memory (λ N. setting N p) (λ k. mark_put m k p) m v.2.0 w.2.0 x y v.2.2 w.2.2
  one-bytes (value (drop_mark k)) v w = absurd v.2
  one-bytes (value (look l)) v w = absurd v.2
