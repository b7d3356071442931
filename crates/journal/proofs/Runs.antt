-- THE PROGRAM. Turn by turn, with whatever chunks of input come between, what is written is the listing of all the input, and the note is that of its replay.
use mathlib.Core.Path.{◌≡◌, sym, ap, ◌∙◌}
use mathlib.Core.Bool.{Bool, true, false, cond, false≢true}
use mathlib.Core.List.{List, [], ◌++◌, append_assoc, append-nil}
use Prim.Native.Nat.{ℕ, ◌+◌}
use lib.ListN.{length, take}
use Rattle.plain.specs.Outcome.{Outcome}
use Rattle.plain_note.specs.Note.{Note, opened}
use Rattle.plain_calls.specs.Calls.{Call}
use Rattle.memory.specs.Formed.{well_formed, note_of}
use Rattle.plain_journal.specs.Fields.{fields_of}
use Rattle.plain_journal.specs.Replay.{codes, after, slots}
use Rattle.plain_journal.specs.Listing.{field_lines, ending, listed, listing}
use Rattle.plain_journal.proofs.Listed.{after_then, listed-none, listed_then}
use Rattle.journal.specs.declared.State.{State}
use Rattle.journal.specs.Turns.{taken_by, Advances}
use Rattle.journal.specs.Runs.{Runs, Runs.starts, Runs.turns, Runs.reads, Runs.ends}

-- ── a turn ──

-- what is still to be listed of an input, from field k on, and the note that its fields leave
abbrev to_come : List ℕ → ℕ → List ℕ → List ℕ
to_come m k s = listed (note_of m) k (fields_of s)

abbrev note_from : List ℕ → List ℕ → Note
note_from m s = after (note_of m) (fields_of s)

module _ (m m' b b' o o' : List ℕ) (st r : State) (a : Advances m m' b b' st o o' r) (more : List ℕ) (h : st.last ≡ true → more ≡ []) where
  abbrev N : Note
  N = note_of m

  abbrev fs : List (Outcome Call)
  fs = fields_of (taken_by st r b)

  abbrev gs : List (Outcome Call)
  gs = fields_of (take r.fill b' ++ more)

  -- what is put, and what is still to come
  turn-lists : to_come m st.k (take st.fill b ++ more) ≡ take r.put o' ++ cond r.over [] (to_come m' r.k (take r.fill b' ++ more))
  turn-lists =
      ap (listed N st.k) (a.whole more h) ∙ listed_then N st.k fs (cond r.over [] gs)
      ∙ ap (λ (M : Note). field_lines st.k (codes N fs) ++ listed M (st.k + length fs) (cond r.over [] gs)) (sym a.does.left.note)
      ∙ ap (λ (j : ℕ). field_lines st.k (codes N fs) ++ listed (note_of m') j (cond r.over [] gs)) (sym a.does.count)
      ∙ go r.over a.lines
    where
      go : (t : Bool) → take r.put o' ≡ field_lines st.k (codes N fs) ++ cond t (ending (note_of m')) []
          → field_lines st.k (codes N fs) ++ listed (note_of m') r.k (cond t [] gs) ≡ take r.put o' ++ cond t [] (listed (note_of m') r.k gs)
      go true e = ap (λ (l : List ℕ). field_lines st.k (codes N fs) ++ l) (listed-none (note_of m') r.k) ∙ sym e ∙ sym (append-nil (take r.put o'))
      go false e = ap (λ (l : List ℕ). l ++ listed (note_of m') r.k gs) (sym (append-nil (field_lines st.k (codes N fs))) ∙ sym e)

  -- the note, and what is still to be replayed
  turn-replays : note_from m (take st.fill b ++ more) ≡ after (note_of m') (cond r.over [] gs)
  turn-replays =
      ap (after N) (a.whole more h) ∙ after_then N fs (cond r.over [] gs)
      ∙ ap (λ (M : Note). after M (cond r.over [] gs)) (sym a.does.left.note)

-- ── any number of them ──

-- what is written, and what is still to come, of whatever more comes behind
abbrev Lists : List ℕ → List ℕ → List ℕ → List ℕ → State → Type 0
Lists came wrote m b st = (more : List ℕ) → (st.last ≡ true → more ≡ []) → listing (came ++ more) ≡ wrote ++ cond st.over [] (to_come m st.k (take st.fill b ++ more))

lists : (came wrote m b : List ℕ) (st : State) → Runs came wrote m b st → Lists came wrote m b st
unfolding listing
lists _ _ _ _ _ (starts m b ok is) more h = ap (λ (N : Note). listed N 1 (fields_of more)) (sym is)
lists _ _ _ _ _ (turns came wrote m m' b b' o o' st r s on a) more h =
    lists came wrote m b st s more (λ l. h (a.same-last ∙ l))
    ∙ ap (λ (t : Bool). wrote ++ cond t [] (to_come m st.k (take st.fill b ++ more))) on
    ∙ ap (λ (l : List ℕ). wrote ++ l) (turn-lists m m' b b' o o' st r a more (λ l. h (a.same-last ∙ l)))
    ∙ sym (append_assoc wrote (take r.put o') (cond r.over [] (to_come m' r.k (take r.fill b' ++ more))))
lists _ _ _ _ _ (reads came wrote m b b' chunk st r s going is k over last) more h =
    ap listing (append_assoc came chunk more)
    ∙ lists came wrote m b st s (chunk ++ more) (λ l. absurd (false≢true (sym going ∙ l)))
    ∙ ap (λ (l : List ℕ). wrote ++ cond st.over [] (to_come m st.k l)) (sym (append_assoc (take st.fill b) chunk more) ∙ ap (λ (l : List ℕ). l ++ more) (sym is))
    ∙ ap (λ (j : ℕ). wrote ++ cond st.over [] (to_come m j (take r.fill b' ++ more))) (sym k)
    ∙ ap (λ (t : Bool). wrote ++ cond t [] (to_come m r.k (take r.fill b' ++ more))) (sym over)
lists _ _ _ _ _ (ends came wrote m b b' st r s is k over last) more h =
    let none : more ≡ [] = h last in
    lists came wrote m b st s more (λ l. none)
    ∙ ap (λ (l : List ℕ). wrote ++ cond st.over [] (to_come m st.k (l ++ more))) (sym is)
    ∙ ap (λ (j : ℕ). wrote ++ cond st.over [] (to_come m j (take r.fill b' ++ more))) (sym k)
    ∙ ap (λ (t : Bool). wrote ++ cond t [] (to_come m r.k (take r.fill b' ++ more))) (sym over)

-- THEOREM: once it is over, the listing of the input is written, and where the input had not ended, of whatever more of it there is too.
pub run-lists : (came wrote m b : List ℕ) (st : State) → Runs came wrote m b st → st.over ≡ true → (more : List ℕ) → (st.last ≡ true → more ≡ []) → wrote ≡ listing (came ++ more)
run-lists came wrote m b st s over more h =
    sym (lists came wrote m b st s more h ∙ ap (λ (t : Bool). wrote ++ cond t [] (to_come m st.k (take st.fill b ++ more))) over ∙ append-nil wrote)

-- THEOREM: at any time, the replay of the input is the note, and then the replay of what is left.
pub run-replays : (came wrote m b : List ℕ) (st : State) → Runs came wrote m b st → (more : List ℕ) → (st.last ≡ true → more ≡ [])
    → after (opened slots) (fields_of (came ++ more)) ≡ after (note_of m) (cond st.over [] (fields_of (take st.fill b ++ more)))
run-replays _ _ _ _ _ (starts m b ok is) more h = ap (λ (N : Note). after N (fields_of more)) (sym is)
run-replays _ _ _ _ _ (turns came wrote m m' b b' o o' st r s on a) more h =
    run-replays came wrote m b st s more (λ l. h (a.same-last ∙ l))
    ∙ ap (λ (t : Bool). after (note_of m) (cond t [] (fields_of (take st.fill b ++ more)))) on
    ∙ turn-replays m m' b b' o o' st r a more (λ l. h (a.same-last ∙ l))
run-replays _ _ _ _ _ (reads came wrote m b b' chunk st r s going is k over last) more h =
    ap (λ (l : List ℕ). after (opened slots) (fields_of l)) (append_assoc came chunk more)
    ∙ run-replays came wrote m b st s (chunk ++ more) (λ l. absurd (false≢true (sym going ∙ l)))
    ∙ ap (λ (l : List ℕ). after (note_of m) (cond st.over [] (fields_of l))) (sym (append_assoc (take st.fill b) chunk more) ∙ ap (λ (l : List ℕ). l ++ more) (sym is))
    ∙ ap (λ (t : Bool). after (note_of m) (cond t [] (fields_of (take r.fill b' ++ more)))) (sym over)
run-replays _ _ _ _ _ (ends came wrote m b b' st r s is k over last) more h =
    let none : more ≡ [] = h last in
    run-replays came wrote m b st s more (λ l. none)
    ∙ ap (λ (l : List ℕ). after (note_of m) (cond st.over [] (fields_of (l ++ more)))) (sym is)
    ∙ ap (λ (t : Bool). after (note_of m) (cond t [] (fields_of (take r.fill b' ++ more)))) (sym over)

-- THEOREM: once it is over, the note is the plain replay of the input.
pub run-note : (came wrote m b : List ℕ) (st : State) → Runs came wrote m b st → st.over ≡ true → (more : List ℕ) → (st.last ≡ true → more ≡ []) → note_of m ≡ after (opened slots) (fields_of (came ++ more))
unfolding after
run-note came wrote m b st s over more h = sym (run-replays came wrote m b st s more h ∙ ap (λ (t : Bool). after (note_of m) (cond t [] (fields_of (take st.fill b ++ more)))) over)

-- the memory stays well formed
pub run-formed : (came wrote m b : List ℕ) (st : State) → Runs came wrote m b st → well_formed m ≡ true
run-formed _ _ _ _ _ (starts m b ok is) = ok
run-formed _ _ _ _ _ (turns came wrote m m' b b' o o' st r s on a) = a.does.left.formed
run-formed _ _ _ _ _ (reads came wrote m b b' chunk st r s going is k over last) = run-formed came wrote m b st s
run-formed _ _ _ _ _ (ends came wrote m b b' st r s is k over last) = run-formed came wrote m b st s
