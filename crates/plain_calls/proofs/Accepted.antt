-- What an accepted call has passed, and what it then came to.
use mathlib.Core.Path.{◌≡◌, sym, ap, ◌∙◌}
use mathlib.Core.Bool.{false}
use mathlib.Core.List.{List, []}
use Prim.Native.Nat.{ℕ, ◌≤◌, ◌<◌}
use lib.IntN.{ℤ}
use lib.ListN.{length}
use borrow.Author.Tests.{ltb-false, leb-false}
use Rattle.plain.specs.Utf8.{decode}
use Rattle.plain.specs.Edit.{put_in, cut_out}
use Rattle.plain.specs.Outcome.{Outcome.value}
use Rattle.plain_note.specs.Note.{Note, Mark.free, Mark.at}
use Rattle.plain_note.proofs.Edits.{Inserts, insert-passed, Removes, remove-passed}
use Rattle.plain_calls.specs.Marks.{is_free, mark_of, lowest}
use Rattle.plain_calls.specs.Calls.{Call, Call.insert, Call.remove, Call.set_mark, Call.drop_mark, Call.look, Said, Said.done, Said.is, Said.by, edited, marked, lines_more, inserting, removing, setting, dropping, looking, said, called}
use Rattle.plain.proofs.Outcome.{passed}
use Rattle.plain_calls.proofs.Rules.{mapped-ruled, mapped-value}
use Rattle.plain_calls.proofs.Refusals.{rules_of}

-- ── call by call ──

pub insert-came : (N : Note) (p : ℕ) (piece : List ℕ) (r : ℤ × Note) → inserting N p piece ≡ value r
    → Inserts N p piece × (r ≡ (lines_more N (put_in p (decode piece) N.text), edited p p (decode piece) N))
unfolding inserting
insert-came N p piece r e =
    let rules = rules_of N (insert p piece) in
    let w = passed rules _ r (sym (mapped-ruled (λ t. (lines_more N t, edited p p (decode piece) N)) rules (put_in p (decode piece) N.text)) ∙ e) in
    (insert-passed N p piece w.0, w.1)

pub remove-came : (N : Note) (s e : ℕ) (r : ℤ × Note) → removing N s e ≡ value r → Removes N s e × (r ≡ (lines_more N (cut_out s e N.text), edited s e [] N))
unfolding removing
remove-came N s e r f =
    let rules = rules_of N (remove s e) in
    let w = passed rules _ r (sym (mapped-ruled (λ t. (lines_more N t, edited s e [] N)) rules (cut_out s e N.text)) ∙ f) in
    (remove-passed N s e w.0, w.1)

pub record Sets (N : Note) (p : ℕ) : Type 0 where
  pub here : p ≤ length N.text
  pub number : lowest N.marks < 256

pub set-came : (N : Note) (p : ℕ) (r : ℕ × Note) → setting N p ≡ value r → Sets N p × (r ≡ (lowest N.marks, marked (lowest N.marks) (at p) N))
unfolding setting
set-came N p r e =
    let w = passed (rules_of N (set_mark p)) _ r e in
    (record { here = ltb-false _ p w.0.0; number = leb-false 256 _ w.0.1.0 }, w.1)

pub drop-came : (N : Note) (k : ℕ) (r : Unit {0} × Note) → dropping N k ≡ value r → (is_free (mark_of N k) ≡ false) × (r ≡ (tt, marked k free N))
unfolding dropping
drop-came N k r e = let w = passed (rules_of N (drop_mark k)) _ r e in (w.0.0, w.1)

-- ── all of them ──

abbrev pub Came : Note → Call → Said × Note → Type 0
Came N (insert p piece) r = Inserts N p piece × (r ≡ (by (lines_more N (put_in p (decode piece) N.text)), edited p p (decode piece) N))
Came N (remove s e) r = Removes N s e × (r ≡ (by (lines_more N (cut_out s e N.text)), edited s e [] N))
Came N (set_mark p) r = Sets N p × (r ≡ (is (lowest N.marks), marked (lowest N.marks) (at p) N))
Came N (drop_mark k) r = (is_free (mark_of N k) ≡ false) × (r ≡ (done, marked k free N))
Came N (look l) r = (looking N l ≡ value r.0) × (r.1 ≡ N)

-- THEOREM: a call that is accepted.
pub came : (N : Note) (c : Call) (r : Said × Note) → called N c ≡ value r → Came N c r
unfolding called
came N (insert p piece) r e =
    let v = mapped-value (said by) (inserting N p piece) r e in
    let w = insert-came N p piece v.0 v.1 in
    (w.0, sym v.2 ∙ ap (said by) w.1)
came N (remove s e) r f =
    let v = mapped-value (said by) (removing N s e) r f in
    let w = remove-came N s e v.0 v.1 in
    (w.0, sym v.2 ∙ ap (said by) w.1)
came N (set_mark p) r e =
    let v = mapped-value (said is) (setting N p) r e in
    let w = set-came N p v.0 v.1 in
    (w.0, sym v.2 ∙ ap (said is) w.1)
came N (drop_mark k) r e =
    let v = mapped-value (said (λ u. done)) (dropping N k) r e in
    let w = drop-came N k v.0 v.1 in
    (w.0, sym v.2 ∙ ap (said (λ u. done)) w.1)
came N (look l) r e = let v = mapped-value (λ a. (a, N)) (looking N l) r e in (v.1 ∙ cc v.2, cc v.2)
