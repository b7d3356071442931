-- From the lent memory to the part of it that the note has, and back: the promise of an edit follows from what the steps leave there.
use mathlib.Core.Path.{◌≡◌, refl, sym, ap, subst, ◌∙◌}
use mathlib.Core.Bool.{Bool, true, false, ◌&&◌}
use mathlib.Core.List.{List, ◌++◌}
use Prim.Native.Nat.{ℕ, suc, ◌+◌, ◌≤◌}
use native.Mathlib.Omega.{arith}
use lib.Dec.{eqb, leb}
use lib.ListN.{length, take, drop, length-append, length-drop}
use lib.Seq.{take_at, drop_at, take-take}
use borrow.Author.Tests.{le-leb, eq-eqb}
use Rattle.plain.specs.Utf8.{decode}
use Rattle.plain.specs.Count.{breaks, lines}
use Rattle.plain.specs.Place.{bytes}
use Rattle.plain.proofs.Utf8.{valid-sound}
use Rattle.plain_note.specs.Note.{Note, Mark, need, limit, head_size}
use Rattle.text_info.specs.Info.{zeros}
use Rattle.text_info.specs.declared.TextSum.{TextSum}
use Rattle.pool.specs.declared.Kid.{Kid}
use Rattle.tree.proofs.Lists.{both}
use Rattle.tree_search.proofs.Nested.{told-by}
use Rattle.note_head.specs.Head.{n_of, edit_of, root_of, height_of, free_of, marks_from, own_of}
use Rattle.note_head.proofs.Own.{front-n, own-n, own_root}
use Rattle.memory.specs.Formed.{chained, note_bytes, in_tree, in_free, tree_right, slots_right, size_right, marks_right, need_met, well_formed, note_in, note_of}
use Rattle.memory.proofs.Below.{below_all}
use Rattle.memory.proofs.Formed.{formed, formed-length}
use Rattle.plain.specs.Edit.{minus}
use Rattle.plain.proofs.Minus.{minus-both}
use Rattle.edit_steps.specs.Held.{Held, Holds, Kept}
use Rattle.edit_steps.proofs.Laws.{own_held, held-valid}
use Rattle.edit_steps.proofs.Keeps.{kept-n, kept-edit, kept-marks}
use Rattle.edit_promise.specs.Edited.{shaped, with_text, Holding}
use Rattle.edit_promise.specs.Turned.{text_in, Turned}

-- ── well formed but for the marks ──

and-moved : (a b c d e : Bool) → (a && (b && (c && (d && e)))) ≡ ((a && (b && (c && d))) && e)
and-moved true true true d e = refl
and-moved true true false d e = refl
and-moved true false c d e = refl
and-moved false b c d e = refl

-- THEOREM: well formed is that, and the marks at places that exist.
pub formed-shaped : (m : List ℕ) → well_formed m ≡ (shaped m && marks_right (own_of m))
unfolding well_formed shaped
formed-shaped m = and-moved (need_met m) (tree_right (own_of m)) (slots_right (own_of m)) (size_right (own_of m)) (marks_right (own_of m))

-- ── a memory that holds a note ──

-- whatever its slots and its bytes are called
held-holds : (m : List ℕ) (n : ℕ) (t : List ℕ) → Held m n t → Holds m
held-holds m n t w = subst (λ (k : ℕ). Held m k (note_bytes m)) (sym w.slotted.stored) (subst (Held m n) (sym w.bytes) w)

pub turned : (m later : List ℕ) (n : ℕ) (new cs : List ℕ) → Held later n new → decode new ≡ cs → Kept m later → Turned m cs later
turned m later n new cs w e k = record { holds = held-holds later n new w; text = ap decode w.bytes ∙ e; kept = k }

module _ (m : List ℕ) (w : Holds m) where
  -- its bytes are those of its text
  pub holds-bytes : bytes (text_in m) ≡ length (note_bytes m)
  holds-bytes = ap length (valid-sound (note_bytes m) (held-valid m (n_of m) (note_bytes m) w)).1

  -- the breaks that its head says
  holds-breaks : (root_of m).info.line_breaks ≡ breaks (text_in m)
  holds-breaks = let t = told-by m (height_of m) (root_of m) w.told zeros in omega (arith, ap (λ (s : TextSum). s.line_breaks) t)

  tree-shaped : tree_right m ≡ true
  unfolding tree_right
  tree-shaped = both _ _ w.good w.told

  slots-shaped : slots_right m ≡ true
  unfolding slots_right
  slots-shaped =
      both (chained m (n_of m) (n_of m) (free_of m)) _ w.slotted.chain
      (below_all (λ x. eqb (in_tree m x + in_free m x) 1) (n_of m) (λ x l. eq-eqb (in_tree m x + in_free m x) 1 (w.each x l)))

  size-shaped : length (note_bytes m) ≤ limit (n_of m) → size_right m ≡ true
  unfolding size_right
  size-shaped h = le-leb (length (note_bytes m)) (limit (n_of m)) h

-- ── the lent memory ──

lines-breaks : (a b : ℕ) → minus a b ≡ minus (a + 1) (b + 1)
lines-breaks a b =
    let x : suc a ≡ a + 1 = omega arith in
    let y : suc b ≡ b + 1 = omega arith in
    sym (minus-both a b) ∙ ap (λ (k : ℕ). minus k (suc b)) x ∙ ap (λ (k : ℕ). minus (a + 1) k) y

module _ (m : List ℕ) (ok : well_formed m ≡ true) where
  -- THEOREM: the note's part of a well-formed memory holds it.
  pub own-holds : Holds (own_of m)
  own-holds =
      let f = formed m ok in
      held-holds (own_of m) (n_of m) (note_bytes (own_of m)) (own_held (own_of m) (n_of m) f.own f.least f.most (formed-length m f))

  pub own-size : length (note_bytes (own_of m)) ≤ limit (n_of (own_of m))
  own-size = let f = formed m ok in omega (arith, f.own.size, ap (λ (k : ℕ). limit k) (own-n m))

  module _ (cs later : List ℕ) (t : Turned (own_of m) cs later) (after : List ℕ) (is : after ≡ later ++ drop (need (n_of m)) m) where
    same-n : n_of later ≡ n_of m
    same-n = kept-n (own_of m) later t.kept ∙ own-n m

    own-long : length later ≡ need (n_of m)
    own-long = t.holds.slotted.long ∙ ap (λ (k : ℕ). need k) same-n

    front : take (need (n_of m)) after ≡ later
    front = ap (take (need (n_of m))) is ∙ take_at later (drop (need (n_of m)) m) (need (n_of m)) own-long

    after-n : n_of after ≡ n_of m
    after-n = sym (front-n after (need (n_of m)) (omega arith)) ∙ ap n_of front ∙ same-n

    after-own : own_of after ≡ later
    unfolding own_of
    after-own = ap (λ (k : ℕ). take (need k) after) after-n ∙ front

    after-long : length after ≡ length m
    after-long = omega (arith, ap length is, length-append later (drop (need (n_of m)) m), length-drop (need (n_of m)) m, own-long, (formed m ok).room)

    own-front : (k : ℕ) → k ≤ need (n_of m) → take k (own_of m) ≡ take k m
    unfolding own_of
    own-front k h = take-take k (need (n_of m)) m h

    after_front : (k : ℕ) → k ≤ need (n_of m) → take k after ≡ take k later
    after_front k h = sym (take-take k (need (n_of m)) after h) ∙ ap (take k) front

    head-kept : Kept m after
    head-kept =
        record {
          front = after_front 8 (omega arith) ∙ t.kept.front ∙ own-front 8 (omega arith);
          middle = ap (drop 29) (after_front 32 (omega arith)) ∙ t.kept.middle ∙ ap (drop 29) (own-front 32 (omega arith));
          rest = ap (drop 36) (after_front head_size (omega arith)) ∙ t.kept.rest ∙ ap (drop 36) (own-front head_size (omega arith));
        }

    abbrev note : List ℕ → List Mark → ℕ → ℕ → Note
    note text marks edit n = record { text = text; marks = marks; edit = edit; n = n }

    note-is : note_in later ≡ with_text cs (note_in (own_of m))
    note-is =
        ap (λ (x : List ℕ). note x (marks_from later 0 256) (edit_of later) (n_of later)) t.text
        ∙ ap (λ (x : List Mark). note cs x (edit_of later) (n_of later)) (kept-marks (own_of m) later t.kept 0 256 (omega arith))
        ∙ ap (λ (x : ℕ). note cs (marks_from (own_of m) 0 256) x (n_of later)) (kept-edit (own_of m) later t.kept)
        ∙ ap (λ (x : ℕ). note cs (marks_from (own_of m) 0 256) (edit_of (own_of m)) x) (kept-n (own_of m) later t.kept)

    need-met : need_met after ≡ true
    unfolding need_met
    need-met =
        let f = formed m ok in
        both (leb 17 (n_of after)) _ (le-leb 17 (n_of after) (omega (arith, f.least, after-n)))
        (both (leb (n_of after) 4096) _ (le-leb (n_of after) 4096 (omega (arith, f.most, after-n)))
        (le-leb (need (n_of after)) (length after) (omega (arith, f.room, after-n, after-long))))

    module _ (room : bytes cs ≤ limit (n_of m)) where
      within : length (note_bytes later) ≤ limit (n_of later)
      within = omega (arith, room, holds-bytes later t.holds, ap (λ (x : List ℕ). bytes x) t.text, ap (λ (k : ℕ). limit k) same-n)

      shape_is : shaped after ≡ true
      unfolding shaped
      shape_is =
          both (need_met after) _ need-met
          (subst (λ (o : List ℕ). (tree_right o && (slots_right o && size_right o)) ≡ true) (sym after-own)
          (both (tree_right later) _ (tree-shaped later t.holds) (both (slots_right later) _ (slots-shaped later t.holds) (size-shaped later t.holds within))))

      -- THEOREM: what the steps leave in the note's part is what an accepted edit leaves in the lent memory.
      pub holding : Holding m cs after
      holding =
          record {
            note = ap (λ (o : List ℕ). note_in o) after-own ∙ note-is;
            shape = shape_is;
            long = after-long;
            head = head-kept;
            beyond = ap (drop (need (n_of m))) is ∙ drop_at later (drop (need (n_of m)) m) (need (n_of m)) own-long;
          }

    -- THEOREM: the change of the breaks that the head says is that of the lines.
    pub lines-changed : minus (root_of after).info.line_breaks (root_of m).info.line_breaks ≡ minus (lines cs) (lines (note_of m).text)
    lines-changed =
        let x : (root_of after).info.line_breaks ≡ breaks cs
        = ap (λ (k : Kid). k.info.line_breaks) (sym (own_root after) ∙ ap root_of after-own) ∙ holds-breaks later t.holds ∙ ap (λ (l : List ℕ). breaks l) t.text in
        let y : (root_of m).info.line_breaks ≡ breaks (text_in (own_of m)) = ap (λ (k : Kid). k.info.line_breaks) (sym (own_root m)) ∙ holds-breaks (own_of m) own-holds in
        ap (λ (k : ℕ). minus k (root_of m).info.line_breaks) x ∙ ap (λ (k : ℕ). minus (breaks cs) k) y ∙ lines-breaks (breaks cs) (breaks (text_in (own_of m)))
