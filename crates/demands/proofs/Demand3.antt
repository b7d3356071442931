-- Demand 3, over sequences of calls on lent memory. It speaks of demand 2's note, so that a program which does nothing does not meet it.
use mathlib.Core.Path.{◌≡◌, refl, sym, ap, subst, ◌∙◌}
use mathlib.Core.Bool.{true}
use mathlib.Core.List.{List, ◌∷◌, ◌++◌}
use Prim.Native.Nat.{ℕ, ◌≤◌, ◌<◌}
use Rattle.plain.specs.Place.{Measure, Measure.line, count_at}
use native.Mathlib.Omega.{arith}
use Rattle.plain.specs.Outcome.{Outcome, Outcome.value, Outcome.refused, mapped}
use Rattle.plain_note.specs.Note.{Note, Mark.at}
use Rattle.plain_calls.specs.Marks.{mark_of}
use Rattle.plain_calls.specs.Calls.{Call, Call.set_mark, Said, Said.is, Said.by, called, left, after_all}
use Rattle.plain.specs.Edit.{minus}
use Rattle.plain_history.specs.History.{begun, told_all}
use Rattle.plain_history.specs.Words.{Undropped, Stood}
use Rattle.plain_history.specs.Shift.{Edit, as_call, start_of, end_of, later, more}
use Rattle.plain_history.proofs.Words.{mark-stands, set-mark-stands}
use Rattle.plain_history.proofs.Shift.{counts-stay, counts_move, lines-answered}
use Rattle.memory.specs.Formed.{well_formed, note_of}
use Rattle.demands.specs.Steps.{Step, Steps, calls_of}
use Rattle.demands.proofs.Fits.{formed-fits}
use Rattle.demands.proofs.Demand2.{Stepped, stepped, followed}

module _ (m : List ℕ) (ok : well_formed m ≡ true) (hs : List (Call × Outcome Said)) (end : List ℕ) (s : Steps m hs end) where
  abbrev N : Note
  N = note_of m

  -- DEMAND 3: a mark live at the start and not dropped stands, at the end, directly before its first surviving follower, or at the end of the text
  pub mark-follows : (k q : ℕ) → mark_of N k ≡ at q → Undropped k N (calls_of hs) → Stood (note_of end) (told_all k (begun k N) N (calls_of hs)) k
  mark-follows k q live kept =
      subst (λ (M : Note). Stood M (told_all k (begun k N) N (calls_of hs)) k) (sym (followed hs m end ok s).note)
      (mark-stands N (formed-fits m ok) (calls_of hs) k q live kept)

  -- DEMAND 3: and so does a mark that was set in the sequence, with the number that the call answered, and not dropped since
  pub set-mark-follows : (before later-calls : List Call) (p k : ℕ) (M : Note) → calls_of hs ≡ before ++ (set_mark p ∷ later-calls)
      → called (after_all N before) (set_mark p) ≡ value (is k, M) → Undropped k M later-calls
      → Stood (note_of end) (told_all k (begun k N) N (before ++ (set_mark p ∷ later-calls))) k
  set-mark-follows before later-calls p k M parts set kept =
      let e : after_all N (before ++ (set_mark p ∷ later-calls)) ≡ note_of end = sym ((followed hs m end ok s).note ∙ ap (after_all N) parts) in
      subst (λ (L : Note). Stood L (told_all k (begun k N) N (before ++ (set_mark p ∷ later-calls))) k) e
      (set-mark-stands N (formed-fits m ok) before later-calls p k M set kept)

-- one accepted edit
module _ (m : List ℕ) (ok : well_formed m ≡ true) (d : Edit) (a : Said) (after : List ℕ) (s : Step (as_call d) m (value a) after) where
  pub record Accepted : Type 0 where
    pub note : Note
    pub is : called (note_of m) (as_call d) ≡ value (a, note)
    pub left : note_of after ≡ note

  accepted : Accepted
  accepted = go (called (note_of m) (as_call d)) refl
    where
      t : Stepped (as_call d) m (value a) after
      t = stepped (as_call d) m (value a) after ok s

      go : (o : Outcome (Said × Note)) → called (note_of m) (as_call d) ≡ o → Accepted
      go (value r) e =
          let z : ◌≡◌ {A = Outcome Said} (value a) (value r.0) = t.answer ∙ ap (mapped (λ x. x.0)) e in
          let y : a ≡ r.0 = cc in
          record { note = r.1; is = e ∙ ap (λ (x : Said). value (x, r.1)) (sym y); left = t.note ∙ ap (left (note_of m)) e }
      go (refused q) e =
          let z : ◌≡◌ {A = Outcome Said} (value a) (refused q) = t.answer ∙ ap (mapped (λ x. x.0)) e in
          absurd (let w : ◌≡◌ {A = ℕ} 0 1 = cc in omega arith)

  -- DEMAND 3: no count changes at a place below its start
  pub counts-below : (c : Measure) (q : ℕ) → q < start_of d → count_at c (note_of after).text q ≡ count_at c (note_of m).text q
  counts-below c q h =
      ap (λ (M : Note). count_at c M.text q) accepted.left ∙ counts-stay (note_of m) d (a, accepted.note) accepted.is c q h

  -- DEMAND 3: each count of all places at or behind its end moves by one amount
  pub counts_behind : (c : Measure) (q : ℕ) → end_of d ≤ q
      → minus (count_at c (note_of after).text (later d q)) (count_at c (note_of m).text q) ≡ more c (note_of m) (note_of after)
  counts_behind c q h =
      subst (λ (M : Note). minus (count_at c M.text (later d q)) (count_at c (note_of m).text q) ≡ more c (note_of m) M) (sym accepted.left)
      (counts_move (note_of m) d (a, accepted.note) accepted.is c q h)

  -- that of lines is what the edit answers
  pub lines-moved : a ≡ by (more line (note_of m) (note_of after))
  lines-moved = lines-answered (note_of m) d (a, accepted.note) accepted.is ∙ ap (λ (M : Note). by (more line (note_of m) M)) (sym accepted.left)
