-- What changes nothing at all, an edit of nothing; and what each other accepted call changes.
use mathlib.Core.Path.{◌≡◌, refl, sym, ap, ◌∙◌}
use mathlib.Core.Bool.{Bool, true, false, ◌&&◌, cond, true≢false, false≢true}
use mathlib.Core.List.{List, [], ◌∷◌, map}
use Prim.Native.Nat.{ℕ, ◌-◌, ◌^◌, ◌≤◌, ◌<◌}
use native.Mathlib.Omega.{arith}
use lib.Dec.{eqb}
use lib.IntN.{pos}
use lib.ListN.{length, take-append-drop}
use borrow.Author.Tests.{eq-eqb, eqb-true}
use Rattle.plain.specs.Chars.{encode}
use Rattle.plain.specs.Utf8.{valid_utf8, decode}
use Rattle.plain.specs.Count.{lines}
use Rattle.plain.specs.Outcome.{Outcome.value}
use Rattle.plain.proofs.Logic.{cut}
use Rattle.plain.proofs.Utf8.{valid-sound}
use Rattle.plain.proofs.Edit.{replaced-length}
use Rattle.plain_note.specs.Note.{Note, Mark, Mark.free, Mark.at}
use Rattle.plain_calls.specs.Marks.{is_free, mark_of, lowest, moved_to, moved, raised}
use Rattle.plain_calls.specs.Calls.{Call.insert, Call.remove, Call.set_mark, Call.drop_mark, Said, Said.is, Said.by, edited, marked, lines_more, called}
use Rattle.plain_calls.specs.Fits.{Fits}
use Rattle.plain_calls.proofs.Marks.{lowest-free, marked-at, marked-free, marked_other, moved_before, moved_on}
use Rattle.plain_calls.proofs.Accepted.{came}
use Rattle.plain_calls.proofs.Minus.{minus-same}

-- ── nothing ──

marks_stay : (f : ℕ → ℕ) → ((q : ℕ) → f q ≡ q) → (ms : List Mark) → map (moved f) ms ≡ ms
marks_stay f h [] = refl
marks_stay f h (free ∷ ms) = ap (λ (l : List Mark). free ∷ l) (marks_stay f h ms)
marks_stay f h (at q ∷ ms) = λ i. at (h q i) ∷ marks_stay f h ms i

-- THEOREM: nothing in the place of nothing is no change at all
pub edited-nothing : (s : ℕ) (N : Note) → edited s s [] N ≡ N
edited-nothing s N =
    let t = take-append-drop s N.text in
    let m = marks_stay (moved_to s s 0) (λ q. cut q s (moved_before s s 0 q) (λ h. moved_on s s 0 q (omega arith) (λ k. omega arith) h ∙ omega arith)) N.marks in
    let e : (edited s s [] N).edit ≡ N.edit = rw (eq-eqb s s refl) in
    λ i. record { text = t i; marks = m i; edit = e i; n = N.n }

no_lines : (s : ℕ) (N : Note) → lines_more N (edited s s [] N).text ≡ pos 0
no_lines s N = ap (λ (M : Note). lines_more N M.text) (edited-nothing s N) ∙ minus-same (lines N.text) (lines N.text) 0 0 (omega arith)

-- THEOREM: an empty piece, and an empty range: the note stays, and no line is more
pub insert-nothing : (N : Note) (p : ℕ) (r : Said × Note) → called N (insert p []) ≡ value r → r ≡ (by (pos 0), N)
unfolding decode
insert-nothing N p r e = (came N (insert p []) r e).1 ∙ (λ i. (by (no_lines p N i), edited-nothing p N i))

pub remove-nothing : (N : Note) (s : ℕ) (r : Said × Note) → called N (remove s s) ≡ value r → r ≡ (by (pos 0), N)
remove-nothing N s r e = (came N (remove s s) r e).1 ∙ (λ i. (by (no_lines s N i), edited-nothing s N i))

-- ── any other edit ──

-- the text is another, and the edit number rises
pub record Changes (N M : Note) : Type 0 where
  pub text : M.text ≡ N.text → ⊥
  pub edit : M.edit ≡ raised N.edit

edited-changes : (s e : ℕ) (new : List ℕ) (N : Note) → s ≤ e → e ≤ length N.text → (length new ≡ e - s → ⊥) → Changes N (edited s e new N)
edited-changes s e new N h k other = record {
  text = λ x. other (omega (arith, ap length x, replaced-length s e new N.text h k));
  edit = go (eqb s e) (eqb (length new) 0) refl refl;
}
  where
    go : (t u : Bool) → eqb s e ≡ t → eqb (length new) 0 ≡ u → cond (t && u) N.edit (raised N.edit) ≡ raised N.edit
    go true true f g = absurd (other (omega (arith, eqb-true s e f, eqb-true (length new) 0 g)))
    go true false f g = refl
    go false u f g = refl

-- 32 bits hold the edit number
pub edit-small : (s e : ℕ) (new : List ℕ) (N : Note) → N.edit < 2 ^ 32 → (edited s e new N).edit < 2 ^ 32
edit-small s e new N h = go (eqb s e && eqb (length new) 0)
  where
    go : (t : Bool) → cond t N.edit (raised N.edit) < 2 ^ 32
    go true = h
    go false = omega arith

-- a piece that is not empty has a char
pub some-chars : (piece : List ℕ) → valid_utf8 piece ≡ true → 0 < length piece → 0 < length (decode piece)
some-chars piece v h = go (decode piece) (valid-sound piece v).1
  where
    go : (cs : List ℕ) → encode cs ≡ piece → 0 < length cs
    go [] f = unfold encode in omega (arith, ap length f)
    go (c ∷ cs) f = omega arith

-- THEOREM: a piece that is not empty, and a range that is not
pub insert-changes : (N : Note) (p : ℕ) (piece : List ℕ) (r : Said × Note) → called N (insert p piece) ≡ value r → 0 < length piece → Changes N r.1
insert-changes N p piece r e h =
    let w = came N (insert p piece) r e in
    rw w.1 (edited-changes p p (decode piece) N (omega arith) w.0.here (λ z. omega (arith, some-chars piece w.0.valid h)))

pub remove-changes : (N : Note) (s e : ℕ) (r : Said × Note) → called N (remove s e) ≡ value r → s < e → Changes N r.1
remove-changes N s e r f h =
    let w = came N (remove s e) r f in
    rw w.1 (edited-changes s e [] N w.0.rise w.0.here (λ z. omega arith))

-- ── marks ──

-- mark k alone is another: what it was, and what it is
pub record Remarks (N M : Note) (k : ℕ) : Type 0 where
  pub another : is_free (mark_of M k) ≡ is_free (mark_of N k) → ⊥
  pub others : (j : ℕ) → (j ≡ k → ⊥) → mark_of M j ≡ mark_of N j
  pub text : M.text ≡ N.text
  pub edit : M.edit ≡ N.edit
  pub n : M.n ≡ N.n

-- THEOREM: a mark set was free, and stands where it was set
pub set-marks : (N : Note) (p : ℕ) (r : Said × Note) → Fits N → called N (set_mark p) ≡ value r
    → (k : ℕ) × (r.0 ≡ is k) × (mark_of N k ≡ free) × (mark_of r.1 k ≡ at p) × Remarks N r.1 k
set-marks N p r f e =
    let w = came N (set_mark p) r e in
    let k = lowest N.marks in
    let was : mark_of N k ≡ free = lowest-free N.marks in
    let now : mark_of (marked k (at p) N) k ≡ at p = marked-at N k p (omega (arith, w.0.number, f.count)) in
    let only : Remarks N (marked k (at p) N) k =
    record { another = λ z. false≢true (sym (ap is_free now) ∙ z ∙ ap is_free was); others = marked_other N k (at p); text = refl; edit = refl; n = refl } in
    (k, ap (λ (x : Said × Note). x.0) w.1, was, rw w.1 now, rw w.1 only)

-- THEOREM: a mark dropped was live, and is free
pub drop-frees : (N : Note) (k : ℕ) (r : Said × Note) → called N (drop_mark k) ≡ value r → (mark_of r.1 k ≡ free) × Remarks N r.1 k
drop-frees N k r e =
    let w = came N (drop_mark k) r e in
    let now : mark_of (marked k free N) k ≡ free = marked-free N k in
    let only : Remarks N (marked k free N) k =
    record { another = λ z. true≢false (sym (ap is_free now) ∙ z ∙ w.0); others = marked_other N k free; text = refl; edit = refl; n = refl } in
    (rw w.1 now, rw w.1 only)
