-- The promises of the calls on marks, from what their tests found in the memory's bytes.
use Rattle.answer.specs.Answers.{Answer, outcome}
use mathlib.Core.Path.{◌≡◌, refl, sym, ap, subst, ◌∙◌}
use mathlib.Core.Bool.{Bool, true, false}
use mathlib.Core.Logic.{◌⊎◌, ⊎_elim}
use mathlib.Core.List.{List, [], ◌∷◌}
use Prim.Native.Nat.{ℕ, ◌≤◌, ◌<◌}
use native.Mathlib.Omega.{arith}
use lib.Dec.{leb}
use lib.ListN.{length, get_or, get_or-eq_default}
use borrow.Author.Tests.{lt-ltb, le-ltb, le-leb, lt-leb}
use Rattle.plain.specs.Count.{line_at}
use Rattle.plain.specs.Place.{Measure.char, Measure.line}
use Rattle.plain.specs.Outcome.{Outcome, Outcome.value, Outcome.refused, ruled, past, mapped, kept}
use Rattle.plain.proofs.Logic.{cut}
use Rattle.plain.proofs.Outcome.{rule-applies, rule-passed, one-applies, one-passed, one-accepted}
use Rattle.plain_note.specs.Note.{Note, Mark, Mark.free, Mark.at, converted}
use Rattle.plain_calls.specs.Marks.{is_free, mark_of, lowest, place_in, standing, line_beside}
use Rattle.plain_calls.specs.Calls.{marked, setting, dropping}
use Rattle.plain_calls.proofs.Marks.{same_or_not}
use Rattle.note_head.specs.Head.{root_of, live_at, place_at, mark_at, marks_from, own_of}
use Rattle.note_head.proofs.Own.{own-marks}
use Rattle.pool.specs.Calls.{Wrote}
use Rattle.note_head.specs.Writes.{live_put, live_set}
use Rattle.note_head.proofs.Laid.{mark-it, live-there}
use Rattle.memory.specs.Formed.{well_formed, note_of, of_note}
use Rattle.memory.proofs.Formed.{note-called, note-refused}
use Rattle.edit_rules.proofs.Rules.{chars-are}
use Rattle.marks.specs.MarkBytes.{standing_in, mark_put}
use Rattle.marks.proofs.Rules.{none-stands, free-stands, live-stands}
use Rattle.marks.proofs.Written.{live-mark, free-mark, marks-length, mark-of}
use Rattle.note_promise.specs.Called.{Left, MarkCalled}
use Rattle.note_promise.proofs.Shape.{formed-fine}
use Rattle.note_promise.proofs.Mark.{long-head, drop-left, set-left}
use Rattle.note_promise.proofs.Promise.{call-refused, call-done}

-- ── mark k, in the bytes and in the note ──

module _ (m : List ℕ) (k : ℕ) where
  pub mark-is : k < 256 → mark_of (note_of m) k ≡ mark_at m k
  mark-is l = ap (λ (ms : List Mark). get_or ms k free) (own-marks m) ∙ mark-of m k l

  pub mark-none : 256 ≤ k → mark_of (note_of m) k ≡ free
  mark-none l = get_or-eq_default (note_of m).marks free (omega (arith, marks-length (own_of m) 0 256))

  stands-free : mark_of (note_of m) k ≡ free → standing (note_of m) k ≡ refused 7
  unfolding standing
  stands-free e = one-applies 7 (is_free (mark_of (note_of m) k)) (place_in (mark_of (note_of m) k)) (ap is_free e)

  stands_at : (q : ℕ) → mark_of (note_of m) k ≡ at q → standing (note_of m) k ≡ value q
  unfolding standing
  stands_at q e = one-passed 7 (is_free (mark_of (note_of m) k)) (place_in (mark_of (note_of m) k)) (ap is_free e) ∙ ap (λ (x : Mark). value (place_in x)) e

  -- THEOREM: where it stands by its bytes is where it stands in the note
  pub standing-is : standing (note_of m) k ≡ standing_in m k
  standing-is =
      cut k 256
      (λ l. same_or_not 1 (live_at m k)
      (λ t e. stands_at (place_at m k) (mark-is l ∙ live-mark m k (sym e)) ∙ sym (live-stands m k l (sym e)))
      (λ t n. stands-free (mark-is l ∙ free-mark m k n) ∙ sym (free-stands m k n)))
      (λ l. stands-free (mark-none l) ∙ sym (none-stands m k l))

  -- a mark that stands is live
  pub record Lives (q : ℕ) : Type 0 where
    pub below : k < 256
    pub live : live_at m k ≡ 1
    pub place : place_at m k ≡ q

  pub stands-lives : (q : ℕ) → standing_in m k ≡ value q → Lives q
  stands-lives q e =
      cut k 256
      (λ l. same_or_not 1 (live_at m k)
      (λ t s. let z : ◌≡◌ {A = Outcome ℕ} (value (place_at m k)) (value q) = sym (live-stands m k l (sym s)) ∙ e in record { below = l; live = sym s; place = cc })
      (λ t n. other (free-stands m k n)))
      (λ l. other (none-stands m k l))
    where
      other : standing_in m k ≡ refused 7 → Lives q
      other f = absurd (let z : ◌≡◌ {A = Outcome ℕ} (refused 7) (value q) = sym f ∙ e in let y : ◌≡◌ {A = ℕ} 0 1 = cc in omega arith)

-- ── what reads a mark ──

module _ (m : List ℕ) (k : ℕ) where
  pub place-2 : well_formed m ≡ false → refused 2 ≡ of_note m (λ N. standing N k)
  place-2 bad = sym (note-refused m (λ N. standing N k) bad)

  pub place-told : well_formed m ≡ true → standing_in m k ≡ of_note m (λ N. standing N k)
  place-told ok = sym (note-called m (λ N. standing N k) ok ∙ standing-is m k)

  pub line-2 : well_formed m ≡ false → refused 2 ≡ of_note m (λ N. line_beside N k)
  line-2 bad = sym (note-refused m (λ N. line_beside N k) bad)

  line_of : well_formed m ≡ true → (o : Outcome ℕ) → o ≡ standing_in m k → of_note m (λ N. line_beside N k) ≡ mapped (line_at (note_of m).text) o
  unfolding line_beside
  line_of ok o e = note-called m (λ N. line_beside N k) ok ∙ ap (mapped (line_at (note_of m).text)) (standing-is m k ∙ sym e)

  pub line_refused : well_formed m ≡ true → (q : ℕ) → refused q ≡ standing_in m k → refused q ≡ of_note m (λ N. line_beside N k)
  line_refused ok q e = sym (line_of ok (refused q) e)

  -- its place, asked for its line
  pub line-told : (q : ℕ) → value q ≡ standing_in m k → of_note m (λ N. converted char line N q) ≡ of_note m (λ N. line_beside N k)
  unfolding converted
  line-told q e = go (well_formed m) refl
    where
      go : (t : Bool) → well_formed m ≡ t → of_note m (λ N. converted char line N q) ≡ of_note m (λ N. line_beside N k)
      go true ok = note-called m (λ N. converted char line N q) ok ∙ here (note_of m).text refl ∙ sym (line_of ok (value q) e)
        where
          w : Lives m k q
          w = stands-lives m k q (sym e)

          inside : q ≤ length (note_of m).text
          inside = ⊎_elim (λ z. absurd (omega (arith, w.live))) (λ p. omega (arith, p.1, w.place)) (formed-fine m ok k w.below)

          here : (cs : List ℕ) → (note_of m).text ≡ cs → converted char line (note_of m) q ≡ value (line_at (note_of m).text q)
          here cs f = one-passed 3 (past q (length (note_of m).text)) (line_at (note_of m).text q) (le-ltb (length (note_of m).text) q inside)
      go false bad = note-refused m (λ N. converted char line N q) bad ∙ sym (note-refused m (λ N. line_beside N k) bad)

-- ── a mark set or dropped ──

module _ {A : Type 0} (o : Note → Outcome (A × Note)) (bytes : A → List ℕ) (m : List ℕ) where
  mark-refused : (q : ℕ) → of_note m o ≡ refused q → MarkCalled o bytes m (refused q) m
  mark-refused q e = record { called = call-refused o m q e; memory = sym (ap (λ (x : Outcome (A × Note)). kept m (mapped (λ r. bytes r.0) x)) e) }

  mark-done : (a : A) (N : Note) → of_note m o ≡ value (a, N) → (after : List ℕ) → after ≡ bytes a → Left m N (bytes a) → MarkCalled o bytes m (value a) after
  mark-done a N e after is l =
      subst (λ (x : List ℕ). MarkCalled o bytes m (value a) x) (sym is)
      (record { called = call-done o m a N e (bytes a) l; memory = sym (ap (λ (x : Outcome (A × Note)). kept m (mapped (λ r. bytes r.0) x)) e) })

module _ (m : List ℕ) (p : ℕ) where
  abbrev set-bytes : ℕ → List ℕ
  set-bytes k = mark_put m k p

  pub set-2 : well_formed m ≡ false → MarkCalled (λ N. setting N p) set-bytes m (refused 2) m
  set-2 bad = mark-refused (λ N. setting N p) set-bytes m 2 (note-refused m (λ N. setting N p) bad)

  module _ (ok : well_formed m ≡ true) (c : ℕ) (stored : c ≡ (root_of m).info.chars) where
    abbrev taken : ℕ
    taken = lowest (note_of m).marks

    chars : length (note_of m).text ≡ c
    chars = chars-are m ok c stored

    pub set-3 : c < p → MarkCalled (λ N. setting N p) set-bytes m (refused 3) m
    unfolding setting
    set-3 h =
        mark-refused (λ N. setting N p) set-bytes m 3
        (note-called m (λ N. setting N p) ok ∙ rule-applies 3 (past p (length (note_of m).text)) ((8, leb 256 taken) ∷ []) _ (lt-ltb _ p (omega (arith, chars))))

    module _ (here : p ≤ c) (k : ℕ) (found : k ≡ lowest (marks_from m 0 256)) where
      same : taken ≡ k
      same = ap lowest (own-marks m) ∙ sym found

      on-3 : of_note m (λ N. setting N p) ≡ ruled ((8, leb 256 taken) ∷ []) (taken, marked taken (at p) (note_of m))
      unfolding setting
      on-3 = note-called m (λ N. setting N p) ok ∙ rule-passed 3 (past p (length (note_of m).text)) ((8, leb 256 taken) ∷ []) _ (le-ltb _ p (omega (arith, chars)))

      pub set-8 : 256 ≤ k → MarkCalled (λ N. setting N p) set-bytes m (refused 8) m
      set-8 h = mark-refused (λ N. setting N p) set-bytes m 8 (on-3 ∙ one-applies 8 (leb 256 taken) _ (le-leb 256 taken (omega (arith, same))))

      pub set-done : k < 256 → p < 4294967296 → (after : List ℕ) → after ≡ mark_put m k p → MarkCalled (λ N. setting N p) set-bytes m (value k) after
      set-done h s after is =
          mark-done (λ N. setting N p) set-bytes m k (marked k (at p) (note_of m))
          (on-3 ∙ one-passed 8 (leb 256 taken) _ (lt-leb 256 taken (omega (arith, same))) ∙ ap (λ (j : ℕ). value (j, marked j (at p) (note_of m))) same)
          after is (set-left m ok k h p (omega (arith, chars)) s)

module _ (m : List ℕ) (k : ℕ) where
  abbrev drop-bytes : Unit {0} → List ℕ
  drop-bytes u = live_put m k 0

  pub drop-2 : well_formed m ≡ false → MarkCalled (λ N. dropping N k) drop-bytes m (refused 2) m
  drop-2 bad = mark-refused (λ N. dropping N k) drop-bytes m 2 (note-refused m (λ N. dropping N k) bad)

  module _ (ok : well_formed m ≡ true) where
    pub drop-7 : (q : ℕ) → refused q ≡ standing_in m k → MarkCalled (λ N. dropping N k) drop-bytes m (refused q) m
    unfolding dropping standing
    drop-7 q e =
        mark-refused (λ N. dropping N k) drop-bytes m q
        (note-called m (λ N. dropping N k) ok ∙ go (is_free (mark_of (note_of m) k)) refl)
      where
        go : (t : Bool) → is_free (mark_of (note_of m) k) ≡ t → dropping (note_of m) k ≡ refused q
        go true f =
            let z : ◌≡◌ {A = Outcome ℕ} (refused q) (refused 7) = e ∙ sym (standing-is m k) ∙ one-applies 7 (is_free (mark_of (note_of m) k)) (place_in (mark_of (note_of m) k)) f in
            let y : 7 ≡ q = cc in
            one-applies 7 (is_free (mark_of (note_of m) k)) _ f ∙ ap (λ (n : ℕ). refused n) y
        go false f =
            absurd (let z : ◌≡◌ {A = Outcome ℕ} (refused q) (value (place_in (mark_of (note_of m) k)))
            = e ∙ sym (standing-is m k) ∙ one-passed 7 (is_free (mark_of (note_of m) k)) (place_in (mark_of (note_of m) k)) f in
            let y : ◌≡◌ {A = ℕ} 0 1 = cc in omega arith)

    pub drop-done : (q : ℕ) → value q ≡ standing_in m k → (after : List ℕ) → after ≡ live_put m k 0 → MarkCalled (λ N. dropping N k) drop-bytes m (value tt) after
    unfolding dropping standing
    drop-done q e after is =
        let w = stands-lives m k q (sym e) in
        mark-done (λ N. dropping N k) drop-bytes m tt (marked k free (note_of m)) (note-called m (λ N. dropping N k) ok ∙ accepted) after is (drop-left m ok k w.below)
      where
        accepted : dropping (note_of m) k ≡ value (tt, marked k free (note_of m))
        accepted = one-passed 7 (is_free (mark_of (note_of m) k)) _ (one-accepted 7 (is_free (mark_of (note_of m) k)) (place_in (mark_of (note_of m) k)) q (standing-is m k ∙ sym e))

    -- the byte written
    pub dropped : (q : ℕ) → value q ≡ standing_in m k → (r : Answer (Unit {0})) (after : List ℕ) → Wrote (live_set m k 0) m r after → MarkCalled (λ N. dropping N k) drop-bytes m (outcome r) after
    unfolding live_set
    dropped q e r after w =
        let l = (stands-lives m k q (sym e)).below in
        let h = long-head m ok in
        subst (λ (o : Outcome (Unit {0})). MarkCalled (λ N. dropping N k) drop-bytes m o after)
        (sym (w.answered ∙ ap (mapped (λ t. tt)) (mark-it m k (live_put m k 0) h l)))
        (drop-done q e after (live-there m h k l 0 r after w))
