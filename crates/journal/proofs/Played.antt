-- Fields done one behind another: the note that each leaves, the number in its line, and the note that all leave.
use mathlib.Core.Path.{◌≡◌, refl, sym, ap, subst, ◌∙◌}
use mathlib.Core.Bool.{Bool, true, false, cond}
use mathlib.Core.List.{List, [], ◌∷◌, ◌++◌}
use Prim.Native.Nat.{ℕ, ◌+◌}
use lib.ListN.{length, drop}
use Rattle.plain.specs.Outcome.{Outcome, Outcome.value, Outcome.refused, mapped}
use Rattle.plain_note.specs.Note.{Note, need}
use Rattle.plain_calls.specs.Calls.{Call, Said, called, left}
use Rattle.note_head.specs.Head.{n_of}
use Rattle.note_head.proofs.Own.{own-n}
use Rattle.memory.specs.Formed.{well_formed, note_of, of_note}
use Rattle.memory.proofs.Formed.{note-called}
use Rattle.note_promise.specs.Called.{Left}
use Rattle.demands.specs.Steps.{Step}
use Rattle.demands.proofs.Demand2.{stepped}
use Rattle.plain_journal.specs.Fields.{before, fields_of}
use Rattle.plain_journal.specs.Replay.{played, note_then, code_of, after}
use Rattle.plain_journal.proofs.Replay.{then-n}
use Rattle.journal_fields.specs.declared.Done.{Done}
use Rattle.journal_fields.specs.declared.Done.TheVariants.{Bad, Code}
use Rattle.journal_fields.specs.Applied.{Applied, line_number}
use Rattle.journal_fields.proofs.Laws.{promised-steps}
use Rattle.journal.specs.Turns.{Played, Replays}

-- ── one field ──

-- does it end the reading?
abbrev pub is_bad : Done → Bool
is_bad Bad = true
is_bad (Code n) = false

kept-left : (m : List ℕ) → well_formed m ≡ true → Left m (note_of m) m
kept-left m ok = record { formed = ok; note = refl; long = refl; beyond = refl }

module _ (m : List ℕ) (ok : well_formed m ≡ true) (d : Done) (mid : List ℕ) where
  -- THEOREM: the note then, and what it leaves alone.
  pub field-left : (f : Outcome Call) → Applied f m d mid → Left m (note_then (note_of m) f) mid
  field-left (refused q) a = subst (λ (x : List ℕ). Left m (note_of m) x) (sym a.2) (kept-left m ok)
  field-left (value c) a = go (called (note_of m) c) refl
    where
      on : (o : Outcome (Said × Note)) → called (note_of m) c ≡ o → of_note m (λ N. called N c) ≡ o
      on o e = note-called m (λ N. called N c) ok ∙ e

      s : Step c m a.0 mid
      s = promised-steps c m a.0 mid a.2

      go : (o : Outcome (Said × Note)) → called (note_of m) c ≡ o → Left m (left (note_of m) (called (note_of m) c)) mid
      go (value r) e = subst (λ (N : Note). Left m N mid) (sym (ap (left (note_of m)) e)) (s.left r.0 r.1 (on (value r) e))
      go (refused q) e =
          subst (λ (N : Note). Left m N mid) (sym (ap (left (note_of m)) e))
          (subst (λ (x : List ℕ). Left m (note_of m) x) (sym (s.unchanged q (on (refused q) e))) (kept-left m ok))

  -- THEOREM: the number in its line.
  pub field-number : (f : Outcome Call) → Applied f m d mid → line_number d ≡ code_of (played (note_of m) f)
  field-number (refused q) a = ap line_number a.1 ∙ sym a.0
  field-number (value c) a =
      ap line_number a.1
      ∙ ap (λ (u : Outcome Said). code_of u) (stepped c m a.0 mid ok (promised-steps c m a.0 mid a.2)).answer
      ∙ first (called (note_of m) c)
    where
      first : (u : Outcome (Said × Note)) → code_of (mapped (λ r. r.0) u) ≡ code_of u
      first (value r) = refl
      first (refused q) = refl

  -- THEOREM: whether fields come behind it.
  pub field-before : (f : Outcome Call) (fs : List (Outcome Call)) → Applied f m d mid → before f fs ≡ f ∷ cond (is_bad d) [] fs
  field-before (refused q) fs a = ap (λ (x : Done). refused q ∷ cond (is_bad x) [] fs) (sym a.1)
  field-before (value c) fs a = ap (λ (x : Done). value c ∷ cond (is_bad x) [] fs) (sym a.1)

-- ── all of them ──

pub played-one : (fs : List (Outcome Call)) (m mid m' : List ℕ) (f : Outcome Call) (d : Done) → Played m fs mid → Applied f mid d m' → Played m (fs ++ (f ∷ [])) m'
played-one [] m mid m' f d p a = (d, m', subst (λ (x : List ℕ). Applied f x d m') p a, refl)
played-one (g ∷ fs) m mid m' f d p a = (p.0, p.1, p.2, played-one fs p.1 mid m' f d p.3 a)

-- THEOREM: the note is then that of the plain replay, and nothing beyond the need has changed.
pub played-left : (fs : List (Outcome Call)) (m m' : List ℕ) → well_formed m ≡ true → Played m fs m' → Left m (after (note_of m) fs) m'
unfolding after
played-left [] m m' ok p = subst (λ (x : List ℕ). Left m (note_of m) x) (sym p) (kept-left m ok)
played-left (f ∷ fs) m m' ok p =
    let mid = p.1 in
    let one = field-left m ok p.0 mid f p.2 in
    let rest = played-left fs mid m' one.formed p.3 in
    let n : n_of mid ≡ n_of m = sym (own-n mid) ∙ ap (λ (N : Note). N.n) one.note ∙ then-n (note_of m) f ∙ own-n m in
    record {
      formed = rest.formed;
      note = rest.note ∙ ap (λ (N : Note). after N fs) one.note;
      long = rest.long ∙ one.long;
      beyond = ap (λ (k : ℕ). drop (need k) m') (sym n) ∙ rest.beyond ∙ ap (λ (k : ℕ). drop (need k) mid) n ∙ one.beyond;
    }

pub replays : (m m' taken : List ℕ) (k j : ℕ) → well_formed m ≡ true → Played m (fields_of taken) m' → j ≡ k + length (fields_of taken) → Replays m m' taken k j
replays m m' taken k j ok p c = record { played = p; left = played-left (fields_of taken) m m' ok p; count = c }
