-- What each public function promises is a step of a sequence: an edit, a mark set or dropped, and what answers a number. Those that hand out text are in
-- Handed.antt.
use Rattle.answer.specs.Answers.{Answer}
use Rattle.std.specs.Prelude.{Ok}
use mathlib.Core.Path.{◌≡◌, refl, sym, ap, subst, ◌∙◌}
use mathlib.Core.Bool.{Bool, true, false}
use mathlib.Core.List.{List, []}
use Prim.Native.Nat.{ℕ}
use lib.IntN.{ℤ}
use Rattle.plain.specs.Place.{Measure}
use Rattle.plain.specs.Outcome.{Outcome, Outcome.value, Outcome.refused, mapped}
use Rattle.plain.proofs.Outcome.{clash}
use Rattle.plain_note.specs.Note.{Note, most_by, converted, opened}
use Rattle.plain_calls.specs.Marks.{standing, line_beside}
use Rattle.plain_calls.specs.Calls.{Call.insert, Call.remove, Call.set_mark, Call.drop_mark, Call.look, Look, Look.total, Look.slots, Look.edits, Look.convert, Look.place, Look.line, Said, Said.done, Said.is, Said.by, inserting, removing, setting, dropping, looking, said, called}
use Rattle.memory.specs.Formed.{well_formed, note_of, of_note}
use Rattle.memory.proofs.Formed.{note-called, note-refused}
use Rattle.pool.specs.Calls.{Wrote}
use Rattle.opening.specs.Opened.{opens}
use Rattle.opening.proofs.Opened.{accepted-opened}
use Rattle.note_promise.specs.Called.{Left, Called, EditCalled, MarkCalled}
use Rattle.demands.specs.Steps.{Step}

-- ── calls that may change the note ──

-- the same call with its answer told as one of all kinds
module _ {A : Type 0} (f : A → Said) (o : Note → Outcome (A × Note)) (m : List ℕ) where
  of-mapped : of_note m (λ N. mapped (said f) (o N)) ≡ mapped (said f) (of_note m o)
  of-mapped = go (well_formed m) refl
    where
      go : (t : Bool) → well_formed m ≡ t → of_note m (λ N. mapped (said f) (o N)) ≡ mapped (said f) (of_note m o)
      go true ok = note-called m (λ N. mapped (said f) (o N)) ok ∙ sym (ap (mapped (said f)) (note-called m o ok))
      go false bad = note-refused m (λ N. mapped (said f) (o N)) bad ∙ sym (ap (mapped (said f)) (note-refused m o bad))

  told-first : (u : Outcome (A × Note)) → mapped (λ r. r.0) (mapped (said f) u) ≡ mapped f (mapped (λ r. r.0) u)
  told-first (value r) = refl
  told-first (refused q) = refl

  told-refused : (u : Outcome (A × Note)) (q : ℕ) → mapped (said f) u ≡ refused q → u ≡ refused q
  told-refused (value r) q e = clash q (said f r) (sym e)
  told-refused (refused n) q e = let z : n ≡ q = cc in ap (λ (k : ℕ). refused k) z

  pub retold : (a : Outcome A) (after : List ℕ) → Called o m a after → Called (λ N. mapped (said f) (o N)) m (mapped f a) after
  retold a after w =
      record {
        answered = ap (mapped f) w.answered ∙ sym (told-first (of_note m o)) ∙ sym (ap (mapped (λ r. r.0)) of-mapped);
        unchanged = λ q e. w.unchanged q (told-refused (of_note m o) q (sym of-mapped ∙ e));
        left = λ b N e. leave b N (of_note m o) refl (sym of-mapped ∙ e);
      }
    where
      leave : (b : Said) (N : Note) (u : Outcome (A × Note)) → of_note m o ≡ u → mapped (said f) (of_note m o) ≡ value (b, N) → Left m N after
      leave b N (value r) x e =
          let z : ◌≡◌ {A = Outcome (Said × Note)} (value (f r.0, r.1)) (value (b, N)) = sym (ap (mapped (said f)) x) ∙ e in
          let y : ◌≡◌ {A = Said × Note} (f r.0, r.1) (b, N) = cc in
          subst (λ (M : Note). Left m M after) (ap (λ (p : Said × Note). p.1) y) (w.left r.0 r.1 x)
      leave b N (refused q) x e = clash q (b, N) (sym (ap (mapped (said f)) x) ∙ e)

module _ (m after : List ℕ) where
  pub insert-steps : (p : ℕ) (piece : List ℕ) (a : Outcome ℤ) → EditCalled (λ N. inserting N p piece) p p piece m a after → Step (insert p piece) m (mapped by a) after
  unfolding called
  insert-steps p piece a w = retold by (λ N. inserting N p piece) m a after w.called

  pub remove-steps : (s e : ℕ) (a : Outcome ℤ) → EditCalled (λ N. removing N s e) s e [] m a after → Step (remove s e) m (mapped by a) after
  unfolding called
  remove-steps s e a w = retold by (λ N. removing N s e) m a after w.called

  pub set-steps : (p : ℕ) (f : ℕ → List ℕ) (a : Outcome ℕ) → MarkCalled (λ N. setting N p) f m a after → Step (set_mark p) m (mapped is a) after
  unfolding called
  set-steps p f a w = retold is (λ N. setting N p) m a after w.called

  pub drop-steps : (k : ℕ) (f : Unit {0} → List ℕ) (a : Outcome (Unit {0})) → MarkCalled (λ N. dropping N k) f m a after → Step (drop_mark k) m (mapped (λ u. done) a) after
  unfolding called
  drop-steps k f a w = retold (λ u. done) (λ N. dropping N k) m a after w.called

-- ── calls that only read: the memory is lent as one that they cannot change ──

module _ (m : List ℕ) where
  -- the memory as it is, where it holds the note
  kept-left : (ok : well_formed m ≡ true) → Left m (note_of m) m
  kept-left ok = record { formed = ok; note = refl; long = refl; beyond = refl }

  abbrev looks : Look → Note → Outcome (Said × Note)
  looks l N = mapped (λ x. (x, N)) (looking N l)

  pub look-steps : (l : Look) (a : Outcome Said) → a ≡ of_note m (λ N. looking N l) → Step (look l) m a m
  unfolding called
  look-steps l a e = go (well_formed m) refl
    where
      first : (N : Note) (o : Outcome Said) → mapped (λ r. r.0) (mapped {B = Said × Note} (λ x. (x, N)) o) ≡ o
      first N (value x) = refl
      first N (refused n) = refl

      second : (N M : Note) (b : Said) (o : Outcome Said) → mapped {B = Said × Note} (λ x. (x, N)) o ≡ value (b, M) → N ≡ M
      second N M b (value x) f = let y : ◌≡◌ {A = Said × Note} (x, N) (b, M) = cc in ap (λ (p : Said × Note). p.1) y
      second N M b (refused n) f = clash n (b, M) f

      go : (t : Bool) → well_formed m ≡ t → Step (look l) m a m
      go true ok =
          let on = note-called m (looks l) ok in
          record {
            answered = e ∙ note-called m (λ N. looking N l) ok ∙ sym (first (note_of m) (looking (note_of m) l)) ∙ sym (ap (mapped (λ r. r.0)) on);
            unchanged = λ q f. refl;
            left = λ b N f. subst (λ (M : Note). Left m M m) (second (note_of m) N b (looking (note_of m) l) (sym on ∙ f)) (kept-left ok);
          }
      go false bad =
          let on = note-refused m (looks l) bad in
          record {
            answered = e ∙ note-refused m (λ N. looking N l) bad ∙ sym (ap (mapped (λ r. r.0)) on);
            unchanged = λ q f. refl;
            left = λ b N f. clash 2 (b, N) (sym on ∙ f);
          }

  -- an answer of one kind as one of all
  pub of-read : {A : Type 0} (f : A → Said) (l : Look) (o : Note → Outcome A) → ((N : Note) → looking N l ≡ mapped f (o N)) → (a : Outcome A) → a ≡ of_note m o → mapped f a ≡ of_note m (λ N. looking N l)
  of-read f l o same a e = go (well_formed m) refl
    where
      go : (t : Bool) → well_formed m ≡ t → mapped f a ≡ of_note m (λ N. looking N l)
      go true ok = ap (mapped f) (e ∙ note-called m o ok) ∙ sym (same (note_of m)) ∙ sym (note-called m (λ N. looking N l) ok)
      go false bad = ap (mapped f) (e ∙ note-refused m o bad) ∙ sym (note-refused m (λ N. looking N l) bad)

  pub total-steps : (c : Measure) (a : Outcome ℕ) → a ≡ of_note m (λ N. value (most_by c N.text)) → Step (look (total c)) m (mapped is a) m
  unfolding looking
  total-steps c a e = look-steps (total c) (mapped is a) (of-read is (total c) (λ N. value (most_by c N.text)) (λ N. refl) a e)

  pub slots-steps : (a : Outcome ℕ) → a ≡ of_note m (λ N. value N.n) → Step (look slots) m (mapped is a) m
  unfolding looking
  slots-steps a e = look-steps slots (mapped is a) (of-read is slots (λ N. value N.n) (λ N. refl) a e)

  pub edits-steps : (a : Outcome ℕ) → a ≡ of_note m (λ N. value N.edit) → Step (look edits) m (mapped is a) m
  unfolding looking
  edits-steps a e = look-steps edits (mapped is a) (of-read is edits (λ N. value N.edit) (λ N. refl) a e)

  pub convert-steps : (from to : Measure) (i : ℕ) (a : Outcome ℕ) → a ≡ of_note m (λ N. converted from to N i) → Step (look (convert from to i)) m (mapped is a) m
  unfolding looking
  convert-steps from to i a e = look-steps (convert from to i) (mapped is a) (of-read is (convert from to i) (λ N. converted from to N i) (λ N. refl) a e)

  pub place-steps : (k : ℕ) (a : Outcome ℕ) → a ≡ of_note m (λ N. standing N k) → Step (look (place k)) m (mapped is a) m
  unfolding looking
  place-steps k a e = look-steps (place k) (mapped is a) (of-read is (place k) (λ N. standing N k) (λ N. refl) a e)

  pub line-steps : (k : ℕ) (a : Outcome ℕ) → a ≡ of_note m (λ N. line_beside N k) → Step (look (line k)) m (mapped is a) m
  unfolding looking
  line-steps k a e = look-steps (line k) (mapped is a) (of-read is (line k) (λ N. line_beside N k) (λ N. refl) a e)

-- ── opening: it makes the memory that a sequence starts on ──

pub open-starts : (m : List ℕ) (n : ℕ) (r : Answer (Unit {0})) (after : List ℕ) → Wrote (opens m n) m r after → r ≡ (Ok tt) → (well_formed after ≡ true) × (note_of after ≡ opened n)
open-starts m n r after w e = let o = accepted-opened m n r after w e in (o.formed, o.note)
