-- The promises of insertion and removal, from the edit of the text and from what was written behind it.
use Rattle.std.specs.Prelude.{Ok, Err}
use mathlib.Core.Path.{◌≡◌, refl, sym, ap, subst, ◌∙◌}
use mathlib.Core.Bool.{Bool, true, ◌&&◌}
use mathlib.Core.List.{List, []}
use Prim.Native.Nat.{ℕ, ◌≤◌, ◌<◌}
use native.Mathlib.Omega.{arith}
use lib.Dec.{eqb}
use lib.IntN.{ℤ}
use lib.ListN.{length}
use borrow.Author.Tests.{eq-eqb, ne_eqb}
use Rattle.plain.specs.Utf8.{decode}
use Rattle.plain.specs.Count.{count_if}
use Rattle.plain.specs.Place.{is_start}
use Rattle.plain.specs.Edit.{put_in, cut_out}
use Rattle.plain.specs.Outcome.{Outcome.value, ruled}
use Rattle.plain.proofs.Logic.{and_none}
use Rattle.plain.proofs.Utf8.{valid-sound}
use Rattle.plain.proofs.Text.{chars-encode}
use Rattle.plain_note.specs.Note.{Note, insert_rules, piece_most}
use Rattle.plain_note.specs.Edits.{remove_rules, inserted, removed}
use Rattle.plain_calls.specs.Calls.{edited, inserting, removing}
use Rattle.plain.proofs.Outcome.{passed}
use Rattle.plain_calls.proofs.Nothing.{edited-nothing, some-chars}
use Rattle.answer.specs.Answers.{refusal_number, Answer, outcome}
use Rattle.answer.specs.declared.Refusal.{Refusal}
use Rattle.memory.specs.Formed.{note_of}
use Rattle.plain_note.proofs.Edits.{Inserts, insert-says, remove-says}
use Rattle.edit_promise.specs.Edited.{Edited}
use Rattle.marks.specs.MarkBytes.{edited_put}
use Rattle.note_promise.specs.Called.{EditCalled}
use Rattle.note_promise.proofs.Promise.{Comes, came, edit-refused, edit-busy, edit-idle}

module _ (m : List ℕ) (p : ℕ) (piece : List ℕ) (r : Answer ℤ) (a : List ℕ) (w : Edited (λ N. inserted N p piece) (piece ≡ []) m r a) where
  abbrev text : Note → List ℕ
  text N = put_in p (decode piece) N.text

  -- THEOREM: a refused insertion
  pub insert-refused : (q : Refusal) → r ≡ Err q → EditCalled (λ N. inserting N p piece) p p piece m (outcome r) a
  unfolding inserting
  insert-refused q e = edit-refused (λ N. inserted N p piece) p p piece m (piece ≡ []) r a w (refusal_number q) (ap outcome e)

  module _ (d : ℤ) (e : r ≡ Ok d) where
    abbrev comes : Comes (λ N. inserted N p piece) p p piece m d
    comes = came (λ N. inserted N p piece) p p piece m (piece ≡ []) r a w d (ap outcome e)

    by-rules : ruled (insert_rules piece_most (note_of m) p piece) (text (note_of m)) ≡ value comes.text
    unfolding inserted
    by-rules = comes.is

    says : Inserts (note_of m) p piece
    says = insert-says (note_of m) p piece (text (note_of m)) comes.text by-rules

    pub insert-short : length piece ≤ 256
    insert-short = says.short

    -- its chars, as they are counted
    chars : count_if is_start piece ≡ length (decode piece)
    chars = sym (ap (count_if is_start) (valid-sound piece says.valid).1) ∙ chars-encode (decode piece)

    -- THEOREM: one of an empty piece
    pub insert-idle : piece ≡ [] → EditCalled (λ N. inserting N p piece) p p piece m (outcome r) a
    unfolding inserting
    insert-idle z =
        let none : decode piece ≡ [] = nothing z in
        edit-idle (λ N. inserted N p piece) p p piece m (piece ≡ []) r a w d (ap outcome e) z
        (subst (λ (cs : List ℕ). (eqb p p && eqb (length cs) 0) ≡ true) (sym none) (ap (λ (t : Bool). t && true) (eq-eqb p p refl)))
        (ap (λ (cs : List ℕ). edited p p cs (note_of m)) none ∙ edited-nothing p (note_of m))
      where
        nothing : piece ≡ [] → decode piece ≡ []
        nothing z = ap decode z ∙ unfold decode in refl

    -- THEOREM: one of a piece that is not
    pub insert-busy : 0 < length piece → (k : ℕ) → k ≡ count_if is_start piece → (after : List ℕ) → after ≡ edited_put a p p k
        → EditCalled (λ N. inserting N p piece) p p piece m (outcome r) after
    unfolding inserting
    insert-busy h k counted after is =
        let some = some-chars piece says.valid h in
        edit-busy (λ N. inserted N p piece) p p piece m (piece ≡ []) r a w d (ap outcome e)
        (ap (λ (t : Bool). eqb p p && t) (ne_eqb (length (decode piece)) 0 (λ z. omega arith)) ∙ and_none (eqb p p))
        (λ x z. omega (arith, ap length z)) (omega arith) says.here
        (passed (insert_rules piece_most (note_of m) p piece) (text (note_of m)) comes.text by-rules).1
        after (is ∙ ap (edited_put a p p) (counted ∙ chars))

module _ (m : List ℕ) (s e : ℕ) (r : Answer ℤ) (a : List ℕ) (w : Edited (λ N. removed N s e) (s ≡ e) m r a) where
  abbrev rest : Note → List ℕ
  rest N = cut_out s e N.text

  -- THEOREM: a refused removal
  pub remove-refused : (q : Refusal) → r ≡ Err q → EditCalled (λ N. removing N s e) s e [] m (outcome r) a
  unfolding removing decode
  remove-refused q f = edit-refused (λ N. removed N s e) s e [] m (s ≡ e) r a w (refusal_number q) (ap outcome f)

  module _ (d : ℤ) (f : r ≡ Ok d) where
    abbrev gone : Comes (λ N. removed N s e) s e [] m d
    gone = came (λ N. removed N s e) s e [] m (s ≡ e) r a w d (ap outcome f)

    ruled-so : ruled (remove_rules (note_of m) s e) (rest (note_of m)) ≡ value gone.text
    unfolding removed
    ruled-so = gone.is

    places : (s ≤ e) × (e ≤ length (note_of m).text)
    places = let r = remove-says (note_of m) s e (rest (note_of m)) gone.text ruled-so in (r.rise, r.here)

    -- THEOREM: one of an empty range
    pub remove-idle : s ≡ e → EditCalled (λ N. removing N s e) s e [] m (outcome r) a
    unfolding removing decode
    remove-idle z =
        edit-idle (λ N. removed N s e) s e [] m (s ≡ e) r a w d (ap outcome f) z
        (ap (λ (t : Bool). t && true) (eq-eqb s e z))
        (subst (λ (q : ℕ). edited s q [] (note_of m) ≡ note_of m) z (edited-nothing s (note_of m)))

    -- THEOREM: one of a range that is not
    pub remove-busy : (s ≡ e → ⊥) → (after : List ℕ) → after ≡ edited_put a s e 0 → EditCalled (λ N. removing N s e) s e [] m (outcome r) after
    unfolding removing decode
    remove-busy n after is =
        edit-busy (λ N. removed N s e) s e [] m (s ≡ e) r a w d (ap outcome f)
        (ap (λ (t : Bool). t && true) (ne_eqb s e n))
        (λ x z. n x) places.0 places.1
        (passed (remove_rules (note_of m) s e) (rest (note_of m)) gone.text ruled-so).1
        after is
