-- DEMAND 3, the marks: after any sequence of calls, accepted or refused, each mark is where its followers put it.
use mathlib.Core.Path.{◌≡◌, refl}
use mathlib.Core.List.{List, [], ◌∷◌}
use Prim.Native.Nat.{ℕ, ◌≤◌, ◌<◌}
use native.Mathlib.Omega.{arith}
use lib.ListN.{length}
use Rattle.plain.specs.Utf8.{decode}
use Rattle.plain.specs.Outcome.{Outcome, Outcome.value, Outcome.refused}
use Rattle.plain.proofs.Edit.{replaced-length}
use Rattle.plain_note.specs.Note.{Note, Mark, Mark.free, Mark.at}
use Rattle.plain_calls.specs.Marks.{mark_of, lowest}
use Rattle.plain_calls.specs.Calls.{Call, Call.insert, Call.remove, Call.set_mark, Call.drop_mark, Call.look, Said, Said.done, Said.is, edited, marked, called, left, after_all}
use Rattle.plain_calls.specs.Fits.{Placed, Fits}
use Rattle.plain_calls.proofs.Marks.{same_or_not, marked-at, marked-free, marked_other, marks-moved}
use Rattle.plain_calls.proofs.Accepted.{came}
use Rattle.plain_calls.proofs.Fits.{fits-left}
use Rattle.plain_history.specs.History.{Told, up_from, begun, rewritten, tell, told, told_all, stands}
use Rattle.plain_history.specs.Words.{Numbers}
use Rattle.plain_history.proofs.Numbers.{up-length, numbers-start, numbers-edited, edited-length}
use Rattle.plain_history.proofs.Follow.{Stand, stand-edited, stand-set, stand-is}

-- what is told of mark k agrees with the note
pub record Kept (k : ℕ) (N : Note) (t : Told) : Type 0 where
  pub same : length t.order ≡ length N.text
  pub numbers : Numbers t.order t.next
  pub stand : Stand (mark_of N k) t.behind t.order t.next

-- ── one call ──

module _ (k : ℕ) (N : Note) (t : Told) (f : Fits N) (r : Kept k N t) where
  kept-edited : (s e : ℕ) (new : List ℕ) → s ≤ e → e ≤ length N.text → (s < e → length new ≡ 0) → Kept k (edited s e new N) (rewritten s e (length new) t)
  kept-edited s e new h l one =
      let v : e ≤ length t.order = omega (arith, r.same) in
      record {
        same = omega (arith, edited-length t.order t.next s e (length new) h v, replaced-length s e new N.text h l, r.same);
        numbers = numbers-edited t.order t.next s e (length new) h v r.numbers;
        stand = rw (marks-moved s e new N k) (stand-edited (mark_of N k) t.behind t.order t.next s e (length new) h v one r.numbers r.stand);
      }

  -- a mark set, and one freed
  kept_set : (p : ℕ) → p ≤ length N.text → lowest N.marks < 256 → Kept k (marked (lowest N.marks) (at p) N) (tell k t (set_mark p) (is (lowest N.marks)))
  unfolding tell
  kept_set p h l =
      let j = lowest N.marks in
      record {
        same = r.same;
        numbers = r.numbers;
        stand = same_or_not j k
            (λ e z. rw (e, ← z, marked-at N j p (omega (arith, f.count))) (stand-set (at p) t.order t.next (omega (arith, r.same)) r.numbers))
            (λ e z. rw (e, marked_other N j (at p) k z) r.stand);
      }

  kept-freed : (j : ℕ) (a : Said) → Kept k (marked j free N) (tell k t (drop_mark j) a)
  unfolding tell
  kept-freed j a = record {
    same = r.same;
    numbers = r.numbers;
    stand = same_or_not j k (λ e z. rw (e, ← z, marked-free N j) tt) (λ e z. rw (e, marked_other N j free k z) r.stand);
  }

  kept-accepted : (c : Call) (a : Said × Note) → called N c ≡ value a → Kept k a.1 (tell k t c a.0)
  kept-accepted (insert p piece) a e =
      let w = came N (insert p piece) a e in
      unfold tell in
      rw w.1 (kept-edited p p (decode piece) (omega arith) w.0.here (λ l. omega arith))
  kept-accepted (remove s e) a x =
      let w = came N (remove s e) a x in
      unfold tell in
      rw w.1 (kept-edited s e [] w.0.rise w.0.here (λ l. refl))
  kept-accepted (set_mark p) a e =
      let w = came N (set_mark p) a e in
      rw w.1 (kept_set p w.0.here w.0.number)
  kept-accepted (drop_mark j) a e = rw (came N (drop_mark j) a e).1 (kept-freed j done)
  kept-accepted (look l) a e = unfold tell in rw (came N (look l) a e).1 r

  pub kept : (c : Call) → Kept k (left N (called N c)) (told k t c (called N c))
  kept c = go (called N c) refl
    where
      go : (o : Outcome (Said × Note)) → called N c ≡ o → Kept k (left N o) (told k t c o)
      go (value a) e = kept-accepted c a e
      go (refused n) e = r

-- ── sequences ──

pub kept-all : (k : ℕ) (N : Note) (t : Told) (cs : List Call) → Fits N → Kept k N t → Kept k (after_all N cs) (told_all k t N cs)
kept-all k N t [] f r = r
kept-all k N t (c ∷ cs) f r = kept-all k (left N (called N c)) (told k t c (called N c)) cs (fits-left N f c) (kept k N t f r c)

pub kept-start : (k : ℕ) (N : Note) → Fits N → Kept k N (begun k N)
unfolding begun
kept-start k N f = record {
  same = up-length 0 (length N.text);
  numbers = numbers-start (length N.text);
  stand = stand-set (mark_of N k) (up_from 0 (length N.text)) (length N.text) (place (mark_of N k) (f.placed k)) (numbers-start (length N.text));
}
  where
    place : (m : Mark) → Placed N.text m → Placed (up_from 0 (length N.text)) m
    place free h = tt
    place (at q) h = omega (arith, up-length 0 (length N.text))

-- THEOREM: whatever was called, mark k is where its followers put it; it is live exactly if it was set, or live at the start, and not dropped since.
pub marks-follow : (N : Note) → Fits N → (cs : List Call) (k : ℕ)
    → mark_of (after_all N cs) k ≡ stands (told_all k (begun k N) N cs).behind (told_all k (begun k N) N cs).order
marks-follow N f cs k =
    let t = told_all k (begun k N) N cs in
    stand-is (mark_of (after_all N cs) k) t.behind t.order t.next (kept-all k N (begun k N) cs f (kept-start k N f)).stand
