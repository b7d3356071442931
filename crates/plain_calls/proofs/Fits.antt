-- Every call, accepted or not, leaves a note that lent memory can hold; and opening makes one.
use mathlib.Core.Path.{◌≡◌, refl, ap, ◌∙◌}
use mathlib.Core.Bool.{true, ◌||◌}
use mathlib.Core.List.{List, [], ◌∷◌, ◌++◌}
use Prim.Native.Nat.{ℕ, zero, suc, ◌+◌, ◌-◌, ◌≤◌, ◌<◌}
use native.Mathlib.Omega.{arith}
use lib.Dec.{ltb}
use lib.ListN.{length, get_or, take, drop, replicate, length-append, length-set, length-map, length-replicate}
use lib.Seq.{take-add}
use borrow.Author.Tests.{ltb-false}
use Rattle.plain.specs.Chars.{encode, all_scalar}
use Rattle.plain.specs.Utf8.{decode}
use Rattle.plain.specs.Place.{bytes, byte_at}
use Rattle.plain.specs.Edit.{replaced}
use Rattle.plain.specs.Outcome.{Outcome, Outcome.value, Outcome.refused, past}
use Rattle.plain.proofs.Logic.{neither}
use Rattle.plain.proofs.Encode.{encode-append, scalar-append, scalar-take, scalar-drop}
use Rattle.plain.proofs.Utf8.{valid-sound}
use Rattle.plain.proofs.Place.{byte_split}
use Rattle.plain.proofs.Edit.{replaced-length}
use Rattle.plain_note.specs.Note.{Note, Mark, Mark.free, Mark.at, need, limit, opened, opening}
use Rattle.plain_calls.specs.Marks.{mark_of, lowest, moved_to, moved}
use Rattle.plain_calls.specs.Calls.{Call, Call.insert, Call.remove, Call.set_mark, Call.drop_mark, Call.look, Said, edited, marked, called, left, after_all}
use Rattle.plain_calls.specs.Fits.{Placed, Fits}
use Rattle.plain_calls.proofs.Marks.{same_or_not, marked-at, marked-free, marked_other, marks-moved, moved-within}
use Rattle.plain.proofs.Outcome.{passed}
use Rattle.plain_calls.proofs.Accepted.{came}

-- ── an edit ──

bytes-append : (a b : List ℕ) → bytes (a ++ b) ≡ bytes a + bytes b
bytes-append a b = ap length (encode-append a b) ∙ length-append (encode a) (encode b)

bytes-replaced : (s e : ℕ) (new cs : List ℕ) → s ≤ e → bytes (replaced s e new cs) ≤ bytes cs + bytes new
bytes-replaced s e new cs h =
    let z : s + (e - s) ≡ e = omega arith in
    omega (
      arith,
      bytes-append (take s cs) (new ++ drop e cs),
      bytes-append new (drop e cs),
      byte_split cs e,
      ap (byte_at cs) z,
      ap (λ (l : List ℕ). bytes l) (take-add s (e - s) cs),
      bytes-append (take s cs) (take (e - s) (drop s cs)),
    )

placed-moved : (m : Mark) (s e : ℕ) (new cs : List ℕ) → s ≤ e → e ≤ length cs → Placed cs m → Placed (replaced s e new cs) (moved (moved_to s e (length new)) m)
placed-moved free s e new cs h k r = tt
placed-moved (at q) s e new cs h k r = omega (arith, moved-within s e (length new) q (length cs) h k r, replaced-length s e new cs h k)

module _ (N : Note) (r : Fits N) where
  fits-edited : (s e : ℕ) (new : List ℕ) → s ≤ e → e ≤ length N.text → all_scalar new ≡ true → bytes (replaced s e new N.text) ≤ limit N.n → Fits (edited s e new N)
  fits-edited s e new h k ok room = record {
    least = r.least;
    most = r.most;
    scalars = scalar-append (take s N.text) (new ++ drop e N.text) (scalar-take N.text s r.scalars) (scalar-append new (drop e N.text) ok (scalar-drop N.text e r.scalars));
    size = room;
    count = length-map N.marks (moved (moved_to s e (length new))) ∙ r.count;
    placed = λ j. rw (marks-moved s e new N j) (placed-moved (mark_of N j) s e new N.text h k (r.placed j));
  }

  -- ── one mark set or freed ──

  fits-marked : (j : ℕ) (m : Mark) → ((k : ℕ) → Placed N.text (mark_of (marked j m N) k)) → Fits (marked j m N)
  fits-marked j m p = record { least = r.least; most = r.most; scalars = r.scalars; size = r.size; count = length-set N.marks j m ∙ r.count; placed = p }

  fits-set : (j p : ℕ) → j < 256 → p ≤ length N.text → Fits (marked j (at p) N)
  fits-set j p h k =
      fits-marked j (at p) (λ i. same_or_not j i (λ e z. rw (← z, marked-at N j p (omega (arith, r.count))) k) (λ e z. rw (marked_other N j (at p) i z) (r.placed i)))

  fits-freed : (j : ℕ) → Fits (marked j free N)
  fits-freed j = fits-marked j free (λ i. same_or_not j i (λ e z. rw (← z, marked-free N j) tt) (λ e z. rw (marked_other N j free i z) (r.placed i)))

-- ── calls ──

bytes-none : bytes [] ≡ 0
unfolding encode
bytes-none = refl

none-scalar : all_scalar [] ≡ true
unfolding all_scalar
none-scalar = refl

fits-accepted : (N : Note) (c : Call) (a : Said × Note) → Fits N → called N c ≡ value a → Fits a.1
fits-accepted N (insert p piece) a r e =
    let w = came N (insert p piece) a e in
    let v = valid-sound piece w.0.valid in
    rw w.1 (fits-edited N r p p (decode piece) (omega arith) w.0.here v.0 (omega (arith, bytes-replaced p p (decode piece) N.text (omega arith), ap length v.1, w.0.room)))
fits-accepted N (remove s e) a r f =
    let w = came N (remove s e) a f in
    rw w.1 (fits-edited N r s e [] w.0.rise w.0.here none-scalar (omega (arith, bytes-replaced s e [] N.text w.0.rise, bytes-none, r.size)))
fits-accepted N (set_mark p) a r e =
    let w = came N (set_mark p) a e in
    rw w.1 (fits-set N r (lowest N.marks) p w.0.number w.0.here)
fits-accepted N (drop_mark k) a r e = rw (came N (drop_mark k) a e).1 (fits-freed N r k)
fits-accepted N (look l) a r e = rw (came N (look l) a e).1 r

-- THEOREM: every call, accepted or not, leaves a note that fits.
pub fits-left : (N : Note) → Fits N → (c : Call) → Fits (left N (called N c))
fits-left N r c = go (called N c) refl
  where
    go : (o : Outcome (Said × Note)) → called N c ≡ o → Fits (left N o)
    go (value a) e = fits-accepted N c a r e
    go (refused n) e = r

pub fits_all : (N : Note) → Fits N → (cs : List Call) → Fits (after_all N cs)
fits_all N r [] = r
fits_all N r (c ∷ cs) = fits_all (left N (called N c)) (fits-left N r c) cs

-- ── opening ──

all-free : (n k : ℕ) → get_or (replicate n free) k free ≡ free
all-free zero k = refl
all-free (suc n) zero = refl
all-free (suc n) (suc k) = all-free n k

-- THEOREM: an opening that is accepted makes a note that fits.
pub fits-opened : (n lent : ℕ) (N : Note) → opening n lent ≡ value N → (N ≡ opened n) × Fits N
unfolding opening
fits-opened n lent N e =
    let w = passed ((1, ltb n 17 || (past n 4096 || past (need n) lent)) ∷ []) (opened n) N e in
    let a = neither (ltb n 17) (past n 4096 || past (need n) lent) w.0.0 in
    let b = neither (past n 4096) (past (need n) lent) a.1 in
    let fits : Fits (opened n) = record {
      least = ltb-false n 17 a.0;
      most = ltb-false 4096 n b.0;
      scalars = none-scalar;
      size = omega (arith, bytes-none);
      count = length-replicate 256 free;
      placed = λ k. rw (all-free 256 k) tt;
    } in
    (w.1, rw w.1 fits)
