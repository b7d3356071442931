-- A mark set or dropped: the memory then, and the note in it.
use mathlib.Core.Path.{◌≡◌, sym, ap, subst, ◌∙◌}
use mathlib.Core.Bool.{true}
use mathlib.Core.Logic.{◌⊎◌, inl, inr, ⊎_elim}
use mathlib.Core.List.{List}
use Prim.Native.Nat.{ℕ, ◌+◌, ◌-◌, ◌≤◌, ◌<◌}
use native.Mathlib.Omega.{arith}
use lib.ListN.{length, drop, set}
use lib.Seq.{drop-drop}
use Rattle.plain.specs.Utf8.{decode}
use Rattle.plain_note.specs.Note.{Mark, Mark.free, Mark.at, need, limit, head_size}
use Rattle.plain_calls.specs.Calls.{marked}
use Rattle.plain_calls.proofs.Marks.{same_or_not}
use Rattle.note_head.specs.Head.{n_of, edit_of, live_at, place_at, marks_from, own_of}
use Rattle.note_head.proofs.Own.{own-n, own-edit, own-marks}
use Rattle.note_head.specs.Writes.{live_put}
use Rattle.memory.specs.Formed.{note_bytes, well_formed, note_of}
use Rattle.edit_steps.specs.Held.{Held}
use Rattle.marks.specs.MarkBytes.{mark_put}
use Rattle.marks.proofs.Beside.{Beside, beside-n, beside-edit, beside-root, beside-height, beside-free}
use Rattle.marks.proofs.Written.{live-beside, live-put, live-other, live-places, freed-marks, put-beside, put-live, put-place, put-lives, put-places, put-marks}
use Rattle.note_promise.specs.Called.{Left}
use Rattle.note_promise.proofs.Tree.{SameTree, same-held}
use Rattle.note_promise.proofs.Shape.{Fine, Shaped, formed-fine, formed-shaped, shaped-formed}

module _ (m : List ℕ) (ok : well_formed m ≡ true) where
  shape : Shaped m (note_bytes (own_of m))
  shape = formed-shaped m ok

  pub long-head : head_size ≤ length m
  long-head = omega (arith, shape.room)

  -- memory that differs in the bytes of the marks alone, which are fine
  module _ (after : List ℕ) (b : Beside m after) where
    tree : SameTree m after
    tree =
        record {
          size = b.size;
          n = beside-n m after b;
          root = beside-root m after b;
          height = beside-height m after b;
          free = beside-free m after b;
          behind = b.behind;
        }

    held : Held (own_of after) (n_of m) (note_bytes (own_of m))
    held = same-held m after tree (n_of m) (note_bytes (own_of m)) shape.held

    after-shape : Shaped after (note_bytes (own_of m))
    after-shape =
        record {
          held = subst (λ (n : ℕ). Held (own_of after) n (note_bytes (own_of m))) (sym tree.n) held;
          room = omega (arith, shape.room, b.size, ap (λ (n : ℕ). need n) tree.n);
          small = omega (arith, shape.small, ap (λ (n : ℕ). limit n) tree.n);
        }

    beyond : (k : ℕ) → head_size ≤ k → drop k after ≡ drop k m
    beyond k l =
        let z : head_size + (k - head_size) ≡ k = omega arith in
        ap (λ (i : ℕ). drop i after) (sym z) ∙ sym (drop-drop (k - head_size) head_size after) ∙ ap (drop (k - head_size)) b.behind
        ∙ drop-drop (k - head_size) head_size m ∙ ap (λ (i : ℕ). drop i m) z

    -- THEOREM: it holds the note with those marks
    marks-left : (k : ℕ) (x : Mark) → marks_from after 0 256 ≡ set (marks_from m 0 256) k x
        → ((i : ℕ) → i < 256 → Fine after (length (decode (note_bytes (own_of m)))) i) → Left m (marked k x (note_of m)) after
    marks-left k x e fine =
        let text : decode (note_bytes (own_of after)) ≡ (note_of m).text = ap decode held.bytes in
        let marks : marks_from (own_of after) 0 256 ≡ set (note_of m).marks k x = own-marks after ∙ e ∙ ap (λ (ms : List Mark). set ms k x) (sym (own-marks m)) in
        let edit : edit_of (own_of after) ≡ (note_of m).edit = own-edit after ∙ beside-edit m after b ∙ sym (own-edit m) in
        let n : n_of (own_of after) ≡ (note_of m).n = own-n after ∙ tree.n ∙ sym (own-n m) in
        record {
          formed = shaped-formed after (note_bytes (own_of m)) after-shape fine;
          note = λ i. record { text = text i; marks = marks i; edit = edit i; n = n i };
          long = b.size;
          beyond = beyond (need (n_of m)) (omega arith);
        }

  module _ (k : ℕ) (l : k < 256) where
    -- a mark that was not written is as fine as before
    still-fine : (after : List ℕ) (i : ℕ) → i < 256 → live_at after i ≡ live_at m i → place_at after i ≡ place_at m i → Fine after (length (decode (note_bytes (own_of m)))) i
    still-fine after i g a p = ⊎_elim (λ z. inl (a ∙ z)) (λ q. inr (a ∙ q.0, omega (arith, p, q.1))) (formed-fine m ok i g)

    -- THEOREM: mark k dropped
    pub drop-left : Left m (marked k free (note_of m)) (live_put m k 0)
    drop-left =
        marks-left (live_put m k 0) (live-beside m long-head k l 0) k free (freed-marks m long-head k l)
        (λ i g. same_or_not k i
        (λ t e. subst (Fine (live_put m k 0) (length (decode (note_bytes (own_of m))))) e (inl (live-put m long-head k l 0)))
        (λ t n. still-fine (live_put m k 0) i g (live-other m long-head k l 0 i n) (live-places m long-head k l 0 i)))

    -- THEOREM: mark k set at a place
    pub set-left : (p : ℕ) → p ≤ length (note_of m).text → p < 4294967296 → Left m (marked k (at p) (note_of m)) (mark_put m k p)
    set-left p h s =
        marks-left (mark_put m k p) (put-beside m long-head k l p s) k (at p) (put-marks m long-head k l p s)
        (λ i g. same_or_not k i
        (λ t e. subst (Fine (mark_put m k p) (length (decode (note_bytes (own_of m))))) e (inr (put-live m long-head k l p s, omega (arith, put-place m long-head k l p s))))
        (λ t n. still-fine (mark_put m k p) i g (put-lives m long-head k l p s i n) (put-places m long-head k l p s i n)))
