-- An accepted edit that changes the text: from what the edit of the tree left, and the marks moved and the edit number raised behind it.
use mathlib.Core.Path.{◌≡◌, sym, ap, subst, ◌∙◌, refl}
use mathlib.Core.Bool.{Bool, true, false, ◌&&◌, cond}
use mathlib.Core.Logic.{◌⊎◌, inl, inr, ⊎_elim}
use mathlib.Core.List.{List, map}
use Prim.Native.Nat.{ℕ, ◌+◌, ◌-◌, ◌≤◌, ◌<◌}
use native.Mathlib.Omega.{arith}
use lib.Dec.{eqb}
use lib.ListN.{length, drop}
use lib.Seq.{drop-drop}
use Rattle.plain.specs.Utf8.{decode}
use Rattle.plain.specs.Place.{bytes}
use Rattle.plain.specs.Edit.{replaced}
use Rattle.plain.proofs.Utf8.{valid-sound}
use Rattle.plain.proofs.Edit.{replaced-length}
use Rattle.plain_note.specs.Note.{Note, need, limit, head_size}
use Rattle.plain_calls.specs.Marks.{moved_to, moved, raised}
use Rattle.plain_calls.specs.Calls.{edited}
use Rattle.plain_calls.proofs.Marks.{moved-within}
use Rattle.note_head.specs.Head.{n_of, edit_of, live_at, place_at, marks_from, own_of}
use Rattle.note_head.proofs.Own.{own-n, own-edit, own-marks}
use Rattle.note_head.proofs.Written.{number-around, edit-set, number_same}
use Rattle.note_head.proofs.Table.{n-tells, root-tells, height-tells, free-tells}
use Rattle.memory.specs.Formed.{note_bytes, well_formed, note_of}
use Rattle.leaf_parts.proofs.Fronts.{chars-bytes}
use Rattle.edit_steps.specs.Held.{Held, Kept}
use Rattle.edit_steps.proofs.Laws.{held-valid}
use Rattle.edit_steps.proofs.Keeps.{kept-n, kept-live, kept-place}
use Rattle.edit_promise.specs.Edited.{Holding}
use Rattle.marks.specs.MarkBytes.{marks_moved, edited_put}
use Rattle.marks.proofs.Beside.{beside-n, beside-root, beside-height, beside-free}
use Rattle.marks.proofs.Moves.{Moved, all_moved, moved-place, moved_marks}
use Rattle.note_promise.specs.Called.{Left}
use Rattle.note_promise.proofs.Tree.{SameTree, same-held}
use Rattle.note_promise.proofs.Shape.{Fine, Shaped, formed-fine, shaped-formed, is-shaped}
use Rattle.note_promise.proofs.Beside.{kept-followed}

module _ (m : List ℕ) (ok : well_formed m ≡ true) (s e : ℕ) (new : List ℕ) (low : s ≤ e) (high : e ≤ length (note_of m).text)
    (a : List ℕ) (h : Holding m (replaced s e new (note_of m).text) a) where
  -- what the edit of the tree left
  abbrev text : List ℕ
  text = replaced s e new (note_of m).text

  abbrev laid : List ℕ
  laid = note_bytes (own_of a)

  shape : Shaped a laid
  shape = is-shaped a h.shape

  long : head_size ≤ length a
  long = omega (arith, shape.room)

  there : decode laid ≡ text
  there = ap (λ (N : Note). N.text) h.note

  -- its chars are fewer than 2^32
  few : length text ≤ 261120
  few =
      omega (
        arith,
        shape.small,
        shape.held.most,
        ap length there,
        chars-bytes (decode laid),
        ap length (valid-sound laid (held-valid (own_of a) (n_of a) laid shape.held)).1,
      )

  -- ── the marks ──

  abbrev f : ℕ → ℕ
  f = moved_to s e (length new)

  live-is : (k : ℕ) → k < 256 → live_at a k ≡ live_at m k
  live-is k l = kept-live m a h.head k l

  place_is : (k : ℕ) → k < 256 → place_at a k ≡ place_at m k
  place_is k l = kept-place m a h.head k l

  within : (k : ℕ) → k < 256 → live_at a k ≡ 1 → f (place_at a k) ≤ length text
  within k l e1 =
      ⊎_elim (λ z. absurd (omega (arith, live-is k l)))
      (λ p. omega (arith, ap f (place_is k l), moved-within s e (length new) (place_at m k) (length (note_of m).text) low high p.1, replaced-length s e new (note_of m).text low high))
      (formed-fine m ok k l)

  small : (k : ℕ) → k < 256 → live_at a k ≡ 1 → f (place_at a k) < 4294967296
  small k l e1 = omega (arith, within k l e1, few)

  -- ── marks moved, then the edit number raised ──

  abbrev b : List ℕ
  b = marks_moved f a 256

  abbrev c : List ℕ
  c = edited_put a s e (length new)

  abbrev v : ℕ
  v = raised (edit_of a)

  after-marks : Moved f a 256 b
  after-marks = all_moved f a long 256 (omega arith)

  b-long : head_size ≤ length b
  b-long = omega (arith, after-marks.beside.size, long)

  tree-b : SameTree a b
  tree-b =
      record {
        size = after-marks.beside.size;
        n = beside-n a b after-marks.beside;
        root = beside-root a b after-marks.beside;
        height = beside-height a b after-marks.beside;
        free = beside-free a b after-marks.beside;
        behind = after-marks.beside.behind;
      }

  tree-c : SameTree b c
  tree-c =
      record {
        size = (number-around b b-long 4 v (omega arith)).size;
        n = number_same b b-long n-tells 4 v refl;
        root = number_same b b-long root-tells 4 v refl;
        height = number_same b b-long height-tells 4 v refl;
        free = number_same b b-long free-tells 4 v refl;
        behind = (number-around b b-long 4 v (omega arith)).behind head_size (omega arith);
      }

  c-size : length c ≡ length a
  c-size = tree-c.size ∙ tree-b.size

  c-n : n_of c ≡ n_of a
  c-n = tree-c.n ∙ tree-b.n

  a-n : n_of a ≡ n_of m
  a-n = kept-n m a h.head

  c-held : Held (own_of c) (n_of a) laid
  c-held = same-held b c tree-c (n_of a) laid (same-held a b tree-b (n_of a) laid shape.held)

  c-shape : Shaped c laid
  c-shape =
      record {
        held = subst (λ (n : ℕ). Held (own_of c) n laid) (sym c-n) c-held;
        room = omega (arith, shape.room, c-size, ap (λ (n : ℕ). need n) c-n);
        small = omega (arith, shape.small, ap (λ (n : ℕ). limit n) c-n);
      }

  c-live : (k : ℕ) → live_at c k ≡ live_at a k
  c-live k = (number-around b b-long 4 v (omega arith)).live k ∙ after-marks.lives k

  c-place : (k : ℕ) → k < 256 → live_at a k ≡ 1 → place_at c k ≡ f (place_at a k)
  c-place k l e1 = (number-around b b-long 4 v (omega arith)).place k ∙ moved-place f a long small k l e1

  c-fine : (k : ℕ) → k < 256 → Fine c (length (decode laid)) k
  c-fine k l =
      ⊎_elim (λ z. inl (c-live k ∙ live-is k l ∙ z))
      (λ p. let one : live_at a k ≡ 1 = live-is k l ∙ p.0 in inr (c-live k ∙ one, omega (arith, c-place k l one, within k l one, ap length there)))
      (formed-fine m ok k l)

  formed : well_formed c ≡ true
  formed = shaped-formed c laid c-shape c-fine

  -- ── the note ──

  text-is : decode (note_bytes (own_of c)) ≡ text
  text-is = ap decode c-held.bytes ∙ there

  marks-are : marks_from (own_of c) 0 256 ≡ map (moved f) (note_of m).marks
  marks-are =
      own-marks c ∙ (number-around b b-long 4 v (omega arith)).marks 0 256 ∙ moved_marks f a long small
      ∙ ap (map (moved f)) (sym (own-marks a) ∙ ap (λ (N : Note). N.marks) h.note)

  edit-is : edit_of (own_of c) ≡ raised (note_of m).edit
  edit-is = own-edit c ∙ edit-set b b-long v (omega arith) ∙ ap raised (sym (own-edit a) ∙ ap (λ (N : Note). N.edit) h.note)

  n-is : n_of (own_of c) ≡ (note_of m).n
  n-is = own-n c ∙ c-n ∙ sym (own-n a) ∙ ap (λ (N : Note). N.n) h.note

  beyond : (k : ℕ) → head_size ≤ k → drop k c ≡ drop k a
  beyond k l =
      let z : head_size + (k - head_size) ≡ k = omega arith in
      ap (λ (i : ℕ). drop i c) (sym z) ∙ sym (drop-drop (k - head_size) head_size c) ∙ ap (drop (k - head_size)) (tree-c.behind ∙ tree-b.behind)
      ∙ drop-drop (k - head_size) head_size a ∙ ap (λ (i : ℕ). drop i a) z

  module _ (busy : (eqb s e && eqb (length new) 0) ≡ false) where
    note-is : note_of c ≡ edited s e new (note_of m)
    note-is =
        let raises : edit_of (own_of c) ≡ cond (eqb s e && eqb (length new) 0) (note_of m).edit (raised (note_of m).edit)
        = edit-is ∙ sym (ap (λ (t : Bool). cond t (note_of m).edit (raised (note_of m).edit)) busy) in
        λ i. record { text = text-is i; marks = marks-are i; edit = raises i; n = n-is i }

    -- THEOREM: the memory then
    pub edit-left : Left m (edited s e new (note_of m)) c
    edit-left =
        record {
          formed = formed;
          note = note-is;
          long = c-size ∙ h.long;
          beyond = beyond (need (n_of m)) (omega arith) ∙ h.beyond;
        }

  -- THEOREM: and its head beside the tree
  pub edit-head : Kept (edited_put m s e (length new)) c
  edit-head = kept-followed m a (omega (arith, h.long, long)) long h.head s e (length new)
