-- Demand 2: after each call of any sequence the memory is well formed and its note is the plain note after the same calls, and every answer, those of
-- totals and conversions among them, is the one counted on the plain note.
use mathlib.Core.Path.{◌≡◌, refl, sym, ap, ◌∙◌}
use mathlib.Core.Bool.{true, false}
use mathlib.Core.List.{List, [], ◌∷◌}
use Prim.Native.Nat.{ℕ}
use Rattle.plain.specs.Outcome.{Outcome, Outcome.value, Outcome.refused, mapped}
use Rattle.plain_note.specs.Note.{Note}
use Rattle.plain_calls.specs.Calls.{Call, Call.look, Look, Said, called, looking, left, after_all}
use Rattle.memory.specs.Formed.{well_formed, note_of, of_note}
use Rattle.memory.proofs.Formed.{note-called, note-refused}
use Rattle.demands.specs.Steps.{Step, Steps, calls_of, answers_on}

-- ── one call ──

pub record Stepped (c : Call) (m : List ℕ) (a : Outcome Said) (after : List ℕ) : Type 0 where
  pub formed : well_formed after ≡ true
  pub note : note_of after ≡ left (note_of m) (called (note_of m) c)
  pub answer : a ≡ mapped (λ r. r.0) (called (note_of m) c)

pub stepped : (c : Call) (m : List ℕ) (a : Outcome Said) (after : List ℕ) → well_formed m ≡ true → Step c m a after → Stepped c m a after
stepped c m a after ok s = go (called (note_of m) c) refl
  where
    on : of_note m (λ N. called N c) ≡ called (note_of m) c
    on = note-called m (λ N. called N c) ok

    answer : a ≡ mapped (λ r. r.0) (called (note_of m) c)
    answer = s.answered ∙ ap (mapped (λ r. r.0)) on

    go : (o : Outcome (Said × Note)) → called (note_of m) c ≡ o → Stepped c m a after
    go (value r) e =
        let l = s.left r.0 r.1 (on ∙ e) in
        record { formed = l.formed; note = l.note ∙ sym (ap (left (note_of m)) e); answer = answer }
    go (refused q) e =
        let same : after ≡ m = s.unchanged q (on ∙ e) in
        record {
          formed = ap well_formed same ∙ ok;
          note = ap (λ (x : List ℕ). note_of x) same ∙ sym (ap (left (note_of m)) e);
          answer = answer;
        }

-- ── any sequence ──

-- the calls of a sequence that started on memory with the note N: the memory at its end, and the answers, are those of the plain note
pub record Followed (N : Note) (hs : List (Call × Outcome Said)) (end : List ℕ) : Type 0 where
  pub formed : well_formed end ≡ true
  pub note : note_of end ≡ after_all N (calls_of hs)
  pub answers : hs ≡ answers_on N (calls_of hs)

-- DEMAND 2
pub followed : (hs : List (Call × Outcome Said)) (m end : List ℕ) → well_formed m ≡ true → Steps m hs end → Followed (note_of m) hs end
followed [] m end ok e = record { formed = ap well_formed e ∙ ok; note = ap (λ (x : List ℕ). note_of x) e; answers = refl }
followed (h ∷ hs) m end ok s =
    let mid = s.0 in
    let one = stepped h.0 m h.1 mid ok s.1 in
    let rest = followed hs mid end one.formed s.2 in
    record {
      formed = rest.formed;
      note = rest.note ∙ ap (λ (N : Note). after_all N (calls_of hs)) one.note;
      answers = λ i. (h.0, one.answer i) ∷ (rest.answers ∙ ap (λ (N : Note). answers_on N (calls_of hs)) one.note) i;
    }

-- DEMAND 2, of what reads: asked after any sequence, it answers what is counted on the plain note then
pub counted : (hs : List (Call × Outcome Said)) (m end : List ℕ) → well_formed m ≡ true → Steps m hs end
    → (l : Look) (a : Outcome Said) (after : List ℕ) → Step (look l) end a after → a ≡ looking (after_all (note_of m) (calls_of hs)) l
unfolding called
counted hs m end ok s l a after t =
    let f = followed hs m end ok s in
    (stepped (look l) end a after f.formed t).answer ∙ only (note_of end) (looking (note_of end) l) ∙ ap (λ (N : Note). looking N l) f.note
  where
    only : (N : Note) (o : Outcome Said) → mapped (λ r. r.0) (mapped {B = Said × Note} (λ a. (a, N)) o) ≡ o
    only N (value x) = refl
    only N (refused n) = refl

-- memory that is not well formed stays as it was, and every call on it is refused by 2
abbrev pub AllRefused : List (Call × Outcome Said) → Type 0
AllRefused [] = Unit {0}
AllRefused (h ∷ hs) = (h.1 ≡ refused 2) × AllRefused hs

pub unformed : (hs : List (Call × Outcome Said)) (m end : List ℕ) → well_formed m ≡ false → Steps m hs end → (end ≡ m) × AllRefused hs
unformed [] m end bad e = (e, tt)
unformed (h ∷ hs) m end bad s =
    let two = note-refused m (λ N. called N h.0) bad in
    let same : s.0 ≡ m = s.1.unchanged 2 two in
    let rest = unformed hs s.0 end (ap well_formed same ∙ bad) s.2 in
    (rest.0 ∙ same, (s.1.answered ∙ ap (mapped (λ r. r.0)) two, rest.1))
