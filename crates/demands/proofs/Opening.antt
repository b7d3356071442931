-- Opening first, then any sequence of calls: `opening::open` is lent any memory, and what the calls behind it answer and leave is that of the empty note.
use Rattle.std.specs.Prelude.{Ok, Err}
use mathlib.Core.Path.{◌≡◌, refl, sym, ap, subst, ◌∙◌}
use mathlib.Core.Bool.{Bool, true, false}
use mathlib.Core.List.{List, ◌∷◌, ◌++◌}
use Prim.Native.Nat.{ℕ, ◌≤◌, ◌<◌}
use lib.ListN.{length}
use Rattle.plain.specs.Place.{Measure, count_at}
use Rattle.plain.specs.Outcome.{Outcome, Outcome.value, Outcome.refused, mapped, kept}
use Rattle.plain.proofs.Outcome.{clash, one-applies, one-passed}
use Rattle.plain_note.specs.Note.{Note, opened}
use Rattle.plain_calls.specs.Calls.{Call, Call.set_mark, Said, Said.is, called, after_all}
use Rattle.plain.specs.Edit.{minus}
use Rattle.plain_history.specs.History.{begun, told_all}
use Rattle.plain_history.specs.Words.{Undropped, Stood}
use Rattle.plain_history.specs.Shift.{Edit, as_call, start_of, end_of, later, more}
use Rattle.answer.specs.Answers.{refusal_number, Answer, outcome}
use Rattle.answer.specs.declared.Refusal.{Refusal}
use Rattle.pool.specs.Calls.{Wrote}
use Rattle.memory.specs.Formed.{note_of}
use Rattle.opening.specs.Opened.{opened_memory, misfit, opens}
use Rattle.demands.specs.Steps.{Step, Steps, calls_of}
use Rattle.demands.proofs.Demand2.{Followed, followed}
use Rattle.demands.proofs.Demand3.{set-mark-follows, counts-below, counts_behind}
use Rattle.demands.proofs.Bridge.{open-starts}

-- `open` on the lent memory, for n slots, left the memory m
module _ (lent : List ℕ) (n : ℕ) (r : Answer (Unit {0})) (m : List ℕ) (w : Wrote (opens lent n) lent r m) where
  -- DEMAND 1: refused, it gives 1 and leaves every byte
  pub open-refused : (q : Refusal) → r ≡ Err q → (refusal_number q ≡ 1) × (m ≡ lent)
  unfolding opens
  open-refused q e = go (misfit n (length lent)) refl
    where
      go : (t : Bool) → misfit n (length lent) ≡ t → (refusal_number q ≡ 1) × (m ≡ lent)
      go true f =
          let o = one-applies 1 (misfit n (length lent)) (opened_memory lent n) f in
          let y : ◌≡◌ {A = Outcome (Unit {0})} (refused (refusal_number q)) (refused 1) = sym (ap outcome e) ∙ w.answered ∙ ap (mapped (λ t. tt)) o in
          let z : refusal_number q ≡ 1 = cc in (z, w.memory ∙ ap (kept lent) o)
      go false f =
          let o = one-passed 1 (misfit n (length lent)) (opened_memory lent n) f in
          clash (refusal_number q) (tt {0}) (sym (ap outcome e) ∙ w.answered ∙ ap (mapped (λ t. tt)) o)

  -- accepted, and then calls from m to `end`
  module _ (yes : r ≡ (Ok tt)) (hs : List (Call × Outcome Said)) (end : List ℕ) (s : Steps m hs end) where
    -- DEMAND 2: the note is the empty note after the same calls, and every answer is the one that it gives
    pub opened-followed : Followed (opened n) hs end
    opened-followed =
        let o = open-starts lent n r m w yes in
        subst (λ (N : Note). Followed N hs end) o.1 (followed hs m end o.0 s)

    -- DEMAND 3: a mark that was set, with the number that the call answered, and not dropped since
    pub opened-mark-follows : (before later-calls : List Call) (p k : ℕ) (M : Note) → calls_of hs ≡ before ++ (set_mark p ∷ later-calls)
        → called (after_all (opened n) before) (set_mark p) ≡ value (is k, M) → Undropped k M later-calls
        → Stood (note_of end) (told_all k (begun k (opened n)) (opened n) (before ++ (set_mark p ∷ later-calls))) k
    opened-mark-follows before later-calls p k M parts set kept =
        let o = open-starts lent n r m w yes in
        subst
        (λ (N : Note). called (after_all N before) (set_mark p) ≡ value (is k, M) → Stood (note_of end) (told_all k (begun k N) N (before ++ (set_mark p ∷ later-calls))) k)
        o.1 (λ set'. set-mark-follows m o.0 hs end s before later-calls p k M parts set' kept) set

    -- DEMAND 3: one accepted edit behind them, beside the empty note after the calls
    module _ (d : Edit) (a : Said) (after : List ℕ) (t : Step (as_call d) end (value a) after) where
      pub opened-counts-below : (c : Measure) (q : ℕ) → q < start_of d
          → count_at c (note_of after).text q ≡ count_at c (after_all (opened n) (calls_of hs)).text q
      opened-counts-below c q h =
          counts-below end opened-followed.formed d a after t c q h ∙ ap (λ (N : Note). count_at c N.text q) opened-followed.note

      pub opened-counts-behind : (c : Measure) (q : ℕ) → end_of d ≤ q
          → minus (count_at c (note_of after).text (later d q)) (count_at c (after_all (opened n) (calls_of hs)).text q) ≡ more c (after_all (opened n) (calls_of hs)) (note_of after)
      opened-counts-behind c q h =
          subst (λ (N : Note). minus (count_at c (note_of after).text (later d q)) (count_at c N.text q) ≡ more c N (note_of after)) opened-followed.note
          (counts_behind end opened-followed.formed d a after t c q h)
