-- The promise of an edit, from what refused it or from what its steps left.
use Rattle.std.specs.Prelude.{Ok, Err}
use mathlib.Core.Path.{◌≡◌, refl, sym, ap, subst, ◌∙◌}
use mathlib.Core.Bool.{Bool, true, false}
use mathlib.Core.List.{List, [], ◌++◌}
use Prim.Native.Nat.{ℕ, ◌≤◌}
use native.Mathlib.Omega.{arith}
use lib.IntN.{ℤ}
use lib.ListN.{length, drop, take-append-drop}
use Rattle.plain.specs.Utf8.{decode}
use Rattle.plain.specs.Count.{lines}
use Rattle.plain.specs.Place.{bytes}
use Rattle.plain.specs.Edit.{put_in, cut_out, minus}
use Rattle.plain.specs.Outcome.{Outcome, Outcome.value, Outcome.refused, Rule, ruled, mapped}
use Rattle.plain.proofs.Outcome.{Known, known, clash}
use Rattle.plain.proofs.Utf8.{valid-sound}
use Rattle.plain_note.specs.Note.{Note, need, insert_rules, piece_most}
use Rattle.plain_note.specs.Edits.{remove_rules, inserted, removed}
use Rattle.answer.specs.Answers.{refusal_number, Answer}
use Rattle.answer.specs.declared.Refusal.{Refusal}
use Rattle.note_head.specs.Head.{n_of, root_of, own_of}
use Rattle.note_head.proofs.Own.{own-n}
use Rattle.memory.specs.Formed.{well_formed, note_of, of_note}
use Rattle.memory.proofs.Formed.{formed, note-called, note-refused, note-accepted}
use Rattle.plain_note.proofs.Edits.{insert-says, remove-says}
use Rattle.answer.proofs.Unique.{answer-one}
use Rattle.edit_promise.specs.Edited.{Holding, Edited}
use Rattle.edit_promise.specs.Turned.{text_in, Turned, Puts, Removes}
use Rattle.edit_promise.proofs.Guard.{put-bytes, cut-bytes}
use Rattle.edit_promise.proofs.Lent.{own-holds, own-size, holds-bytes, holding, lines-changed}

-- ── any edit ──

module _ {A B : Type 0} (f : A → B) where
  mapped-value : (o : Outcome A) (a : A) → o ≡ value a → mapped f o ≡ value (f a)
  mapped-value o a e = ap (mapped f) e

  mapped-refused : (o : Outcome A) (q : ℕ) → o ≡ refused q → mapped f o ≡ refused q
  mapped-refused o q e = ap (mapped f) e

-- a refusal has its number whatever the call would answer
renumbered : {A B : Type 0} (p q : ℕ) → ◌≡◌ {A = Outcome A} (refused p) (refused q) → ◌≡◌ {A = Outcome B} (refused p) (refused q)
renumbered p q e = let z : p ≡ q = cc in ap (λ (k : ℕ). refused k) z

module _ (o : Note → Outcome (List ℕ)) (idle : Type 0) (m : List ℕ) where
  abbrev line_change : Note → Outcome ℤ
  line_change N = mapped (λ t. minus (lines t) (lines N.text)) (o N)

  -- what the answer is of what the edit comes to
  answer-refused : (q : ℕ) → of_note m o ≡ refused q → of_note m line_change ≡ refused q
  answer-refused q e = go (well_formed m) refl
    where
      go : (t : Bool) → well_formed m ≡ t → of_note m line_change ≡ refused q
      go true ok = note-called m line_change ok ∙ mapped-refused _ (o (note_of m)) q (sym (note-called m o ok) ∙ e)
      go false w = note-refused m line_change w ∙ renumbered 2 q (sym (note-refused m o w) ∙ e)

  -- THEOREM: a refused edit.
  edit-refused : (r : Refusal) → of_note m o ≡ refused (refusal_number r) → Edited o idle m (Err r) m
  edit-refused r e =
      record {
        answered = sym (answer-refused (refusal_number r) e);
        unchanged = λ q f. refl;
        edited = λ t f. clash (refusal_number r) t (sym e ∙ f);
        still = λ i. refl;
      }

  -- THEOREM: an accepted one.
  edit-done : well_formed m ≡ true → (cs : List ℕ) → o (note_of m) ≡ value cs → (after : List ℕ) → Holding m cs after → (idle → after ≡ m)
      → (d : ℤ) → d ≡ minus (lines cs) (lines (note_of m).text) → Edited o idle m (Ok d) after
  edit-done ok cs e after h i d f =
      let c = note-called m o ok ∙ e in
      record {
        answered = ap (λ (z : ℤ). value z) f ∙ sym (note-called m line_change ok ∙ mapped-value _ (o (note_of m)) cs e);
        unchanged = λ q g. clash q cs (sym g ∙ c);
        edited = λ t g. let z : value cs ≡ value t = sym c ∙ g in let y : cs ≡ t = cc in subst (λ (x : List ℕ). Holding m x after) y h;
        still = i;
      }

  -- THEOREM: no second outcome meets the promise: one answer, one note, and where the call is refused the same bytes.
  pub edited-one : (r s : Answer ℤ) (a b : List ℕ) → Edited o idle m r a → Edited o idle m s b → r ≡ s
  edited-one r s a b x y = answer-one r s (x.answered ∙ sym y.answered)

  pub noted_one : (r s : Answer ℤ) (a b : List ℕ) → Edited o idle m r a → Edited o idle m s b → note_of a ≡ note_of b
  noted_one r s a b x y = go (of_note m o) refl
    where
      go : (u : Outcome (List ℕ)) → of_note m o ≡ u → note_of a ≡ note_of b
      go (value t) e = (x.edited t e).note ∙ sym (y.edited t e).note
      go (refused q) e = ap (λ (l : List ℕ). note_of l) (x.unchanged q e ∙ sym (y.unchanged q e))

-- ── an edit by its rules ──

module _ {A : Type 0} (rules : Note → List Rule) (text : Note → A) (m : List ℕ) where
  rules-refused : (q : ℕ) → refused q ≡ of_note m (λ N. ruled (rules N) (tt {0})) → of_note m (λ N. ruled (rules N) (text N)) ≡ refused q
  rules-refused q e = go (well_formed m) refl
    where
      go : (t : Bool) → well_formed m ≡ t → of_note m (λ N. ruled (rules N) (text N)) ≡ refused q
      go true ok =
          note-called m (λ N. ruled (rules N) (text N)) ok
          ∙ subst (Known (rules (note_of m)) (tt {0}) (text (note_of m))) (sym (note-called m (λ N. ruled (rules N) (tt {0})) ok) ∙ sym e) (known (rules (note_of m)) (tt {0}) (text (note_of m)))
      go false w = note-refused m (λ N. ruled (rules N) (text N)) w ∙ renumbered 2 q (sym (note-refused m (λ N. ruled (rules N) (tt {0})) w) ∙ sym e)

  rules-passed : value (tt {0}) ≡ of_note m (λ N. ruled (rules N) (tt {0})) → (well_formed m ≡ true) × (ruled (rules (note_of m)) (text (note_of m)) ≡ value (text (note_of m)))
  rules-passed e =
      let a = note-accepted m (λ N. ruled (rules N) (tt {0})) (tt {0}) (sym e) in
      (a.0, (subst (Known (rules (note_of m)) (tt {0}) (text (note_of m))) a.1 (known (rules (note_of m)) (tt {0}) (text (note_of m)))).1)

-- ── the two edits ──

-- the part that is lent to the steps, by the need that the head says
module _ (m : List ℕ) (end : ℕ) (is : end ≡ need (n_of m)) where
  pub rest_part : (later : List ℕ) → later ++ drop end m ≡ later ++ drop (need (n_of m)) m
  rest_part later = ap (λ (n : ℕ). later ++ drop n m) is

  pub own_room : well_formed m ≡ true → end ≤ length m
  own_room ok = omega (arith, (formed m ok).room, is)

-- where the note's part is as it was, all is
back : (m later after : List ℕ) → after ≡ later ++ drop (need (n_of m)) m → later ≡ own_of m → after ≡ m
unfolding own_of
back m later after is e = is ∙ ap (λ (l : List ℕ). l ++ drop (need (n_of m)) m) e ∙ take-append-drop (need (n_of m)) m

module _ (m : List ℕ) (p : ℕ) (piece : List ℕ) where
  abbrev insertion : Note → Outcome (List ℕ)
  insertion N = inserted N p piece

  pub insert-refused : (r : Refusal) → refused (refusal_number r) ≡ of_note m (λ N. ruled (insert_rules piece_most N p piece) (tt {0}))
      → Edited (λ N. inserted N p piece) (piece ≡ []) m (Err r) m
  insert-refused r e = edit-refused insertion (piece ≡ []) m r (told e)
    where
      told : refused (refusal_number r) ≡ of_note m (λ N. ruled (insert_rules piece_most N p piece) (tt {0})) → of_note m (λ N. inserted N p piece) ≡ refused (refusal_number r)
      told e = unfold inserted in rules-refused (λ N. insert_rules piece_most N p piece) (λ N. put_in p (decode piece) N.text) m (refusal_number r) e

  module _ (fine : value (tt {0}) ≡ of_note m (λ N. ruled (insert_rules piece_most N p piece) (tt {0}))) where
    pub insert-formed : well_formed m ≡ true
    insert-formed = (rules-passed (λ N. insert_rules piece_most N p piece) (λ N. put_in p (decode piece) N.text) m fine).0

    comes : inserted (note_of m) p piece ≡ value (put_in p (decode piece) (note_of m).text)
    unfolding inserted
    comes = (rules-passed (λ N. insert_rules piece_most N p piece) (λ N. put_in p (decode piece) N.text) m fine).1

    -- what the steps ask is there
    pub insert-puts : Puts (own_of m) p piece
    insert-puts =
        let a = note-accepted m (λ N. ruled (insert_rules piece_most N p piece) (tt {0})) (tt {0}) (sym fine) in
        let i = insert-says (note_of m) p piece (tt {0}) (tt {0}) a.1 in
        record {
          holds = own-holds m insert-formed;
          here = i.here;
          valid = i.valid;
          short = i.short;
          room = omega (arith, i.room, holds-bytes (own_of m) (own-holds m insert-formed));
        }

    pub insert-done : (later : List ℕ) → Turned (own_of m) (put_in p (decode piece) (text_in (own_of m))) later → (piece ≡ [] → later ≡ own_of m)
        → (after : List ℕ) → after ≡ later ++ drop (need (n_of m)) m
        → (b a : ℕ) → b ≡ (root_of m).info.line_breaks → a ≡ (root_of after).info.line_breaks → (d : ℤ) → d ≡ minus a b
        → Edited (λ N. inserted N p piece) (piece ≡ []) m (Ok d) after
    insert-done later t i after is b a x y d f =
        let s = insert-says (note_of m) p piece _ _ (note-accepted m (λ N. ruled (insert_rules piece_most N p piece) (tt {0})) (tt {0}) (sym fine)).1 in
        let size : bytes (decode piece) ≡ length piece = ap length (valid-sound piece s.valid).1 in
        edit-done insertion (piece ≡ []) m insert-formed (put_in p (decode piece) (note_of m).text) comes after
        (holding m insert-formed _ later t after is (omega (arith, s.room, size, put-bytes p (decode piece) (note_of m).text, own-n m)))
        (λ e. back m later after is (i e))
        d (f ∙ ap (λ (k : ℕ). minus k b) y ∙ ap (λ (k : ℕ). minus (root_of after).info.line_breaks k) x ∙ lines-changed m insert-formed _ later t after is)

module _ (m : List ℕ) (s e : ℕ) where
  abbrev removal : Note → Outcome (List ℕ)
  removal N = removed N s e

  pub remove-refused : (r : Refusal) → refused (refusal_number r) ≡ of_note m (λ N. ruled (remove_rules N s e) (tt {0}))
      → Edited (λ N. removed N s e) (s ≡ e) m (Err r) m
  remove-refused r f = edit-refused removal (s ≡ e) m r (told f)
    where
      told : refused (refusal_number r) ≡ of_note m (λ N. ruled (remove_rules N s e) (tt {0})) → of_note m (λ N. removed N s e) ≡ refused (refusal_number r)
      told f = unfold removed in rules-refused (λ N. remove_rules N s e) (λ N. cut_out s e N.text) m (refusal_number r) f

  module _ (fine : value (tt {0}) ≡ of_note m (λ N. ruled (remove_rules N s e) (tt {0}))) where
    pub remove-formed : well_formed m ≡ true
    remove-formed = (rules-passed (λ N. remove_rules N s e) (λ N. cut_out s e N.text) m fine).0

    comes-to : removed (note_of m) s e ≡ value (cut_out s e (note_of m).text)
    unfolding removed
    comes-to = (rules-passed (λ N. remove_rules N s e) (λ N. cut_out s e N.text) m fine).1

    places : (s ≤ e) × (e ≤ length (note_of m).text)
    places =
        let r = remove-says (note_of m) s e (tt {0}) (tt {0}) (note-accepted m (λ N. ruled (remove_rules N s e) (tt {0})) (tt {0}) (sym fine)).1 in
        (r.rise, r.here)

    -- what the steps ask is there
    pub remove-removes : Removes (own_of m) s e
    remove-removes = record { holds = own-holds m remove-formed; low = places.0; high = places.1; room = own-size m remove-formed }

    pub remove-done : (later : List ℕ) → Turned (own_of m) (cut_out s e (text_in (own_of m))) later → (s ≡ e → later ≡ own_of m)
        → (after : List ℕ) → after ≡ later ++ drop (need (n_of m)) m
        → (b a : ℕ) → b ≡ (root_of m).info.line_breaks → a ≡ (root_of after).info.line_breaks → (d : ℤ) → d ≡ minus a b
        → Edited (λ N. removed N s e) (s ≡ e) m (Ok d) after
    remove-done later t i after is b a x y d f =
        edit-done removal (s ≡ e) m remove-formed (cut_out s e (note_of m).text) comes-to after
        (holding m remove-formed _ later t after is
        (omega (arith, cut-bytes s e (note_of m).text places.0, holds-bytes (own_of m) (own-holds m remove-formed), own-size m remove-formed, own-n m)))
        (λ g. back m later after is (i g))
        d (f ∙ ap (λ (k : ℕ). minus k b) y ∙ ap (λ (k : ℕ). minus (root_of after).info.line_breaks k) x ∙ lines-changed m remove-formed _ later t after is)
