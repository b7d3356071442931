-- From the tests of the code to what a call comes to on the note.
use mathlib.Core.Path.{◌≡◌, refl, sym, ap, ◌∙◌}
use mathlib.Core.Bool.{Bool, true, false}
use mathlib.Core.List.{List}
use Prim.Native.Nat.{ℕ, ◌+◌, ◌-◌, ◌≤◌, ◌<◌}
use native.Mathlib.Omega.{arith}
use lib.ListN.{take, drop}
use borrow.Author.Tests.{lt-ltb, le-ltb}
use Rattle.plain.specs.Utf8.{decode}
use Rattle.plain.specs.Place.{count_at}
use Rattle.plain.specs.Place as Place
use Rattle.plain.specs.Outcome.{Outcome, Outcome.value, Outcome.refused, past}
use Rattle.plain.proofs.Logic.{and_left, and_right}
use Rattle.plain.proofs.Outcome.{one-applies, one-passed}
use Rattle.plain_note.specs.Note.{Note, place_by, most_by, converted}
use Rattle.pool.specs.Slot.{slot_start, len_of, region_of}
use Rattle.nodes.specs.Node.{text_of}
use Rattle.nodes.proofs.Laid.{text-lent}
use Rattle.pool.specs.declared.Kid.{Kid}
use Rattle.note_head.specs.Head.{n_of, edit_of, root_of, own_of}
use Rattle.note_head.proofs.Own.{own-n, own-edit, own_root}
use Rattle.memory.proofs.Formed.{note-refused, note-called}
use Rattle.memory.specs.Formed.{need_met, tree_right, well_formed, note_of, of_note}
use Rattle.note_counts.specs.declared.Count.{Count}
use Rattle.note_counts.specs.Counts.{measure, most_in}
use Rattle.note_counts.proofs.InNote.{most-is}

-- ── a conversion ──

module _ (from to : Place.Measure) (N : Note) (i n : ℕ) (top : n ≡ most_by from N.text) where
  pub converted-past : n < i → refused 3 ≡ converted from to N i
  unfolding converted
  converted-past h = sym (one-applies 3 (past i (most_by from N.text)) (count_at to N.text (place_by from N.text i)) (lt-ltb (most_by from N.text) i (omega arith)))

  pub converted-done : (r : ℕ) → i ≤ n → r ≡ count_at to N.text (place_by from N.text i) → value r ≡ converted from to N i
  unfolding converted
  converted-done r h e =
      ap (λ (x : ℕ). value x) e
      ∙ sym (one-passed 3 (past i (most_by from N.text)) (count_at to N.text (place_by from N.text i)) (le-ltb (most_by from N.text) i (omega arith)))

-- ── the memory ──

module _ {A : Type 0} (m : List ℕ) (f : Note → Outcome A) (t : Bool) (check : t ≡ well_formed m) where
  pub not-formed : t ≡ false → refused 2 ≡ of_note m f
  not-formed e = sym (note-refused m f (sym check ∙ e))

  pub well-formed : t ≡ true → of_note m f ≡ f (note_of m)
  well-formed e = note-called m f (sym check ∙ e)

module _ (m : List ℕ) (t : Bool) (check : t ≡ well_formed m) (yes : t ≡ true) where
  well : well_formed m ≡ true
  well = sym check ∙ yes

  own-right : tree_right (own_of m) ≡ true
  unfolding well_formed
  own-right = and_left (tree_right (own_of m)) _ (and_right (need_met m) _ well)

  pub lent-right : (lent : List ℕ) → lent ≡ own_of m → tree_right lent ≡ true
  lent-right lent own = ap tree_right own ∙ own-right

-- the highest index of a well-formed memory, from the counts in its head
pub head-told : (m : List ℕ) → well_formed m ≡ true → (by : Count) (k : Kid) → k ≡ root_of m → most_in by k.info ≡ most_by (measure by) (note_of m).text
head-told m ok by k e = most-is (own_of m) (own-right m (well_formed m) refl ok) by k (most_in by k.info) (e ∙ sym (own_root m)) refl

pub own-slots : (m : List ℕ) (n : ℕ) → n ≡ n_of m → n ≡ (note_of m).n
own-slots m n e = e ∙ sym (own-n m)

pub own-edits : (m : List ℕ) (n : ℕ) → n ≡ edit_of m → n ≡ (note_of m).edit
own-edits m n e = e ∙ sym (own-edit m)

-- ── the text of a leaf, lent ──

pub lent-text : (m : List ℕ) (s a n : ℕ) → a ≡ slot_start s + 128 → len_of m s ≡ n → n ≤ 512 → take (a + n - a) (drop a m) ≡ text_of m s
lent-text m s a n e f h = text-lent m s a n e h ∙ ap (λ (k : ℕ). take k (region_of m s)) (sym f)

-- in_leaf's answer, of the part that was lent
pub lent-turned : (text lent : List ℕ) (from to : Place.Measure) (i r : ℕ) → lent ≡ text → r ≡ count_at to (decode lent) (place_by from (decode lent) i)
    → r ≡ count_at to (decode text) (place_by from (decode text) i)
lent-turned text lent from to i r e f = f ∙ ap (λ (l : List ℕ). count_at to (decode l) (place_by from (decode l) i)) e
