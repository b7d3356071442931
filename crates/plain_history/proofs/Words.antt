-- DEMAND 3 in words: where a mark stands that is live at the start, or set in the sequence, and not dropped; and the numbers, which are no mark's.
use mathlib.Core.Path.{◌≡◌, refl, sym, ap, subst}
use mathlib.Core.Bool.{Bool, true, false, cond}
use mathlib.Core.List.{List, [], ◌∷◌, ◌++◌}
use Prim.Native.Nat.{ℕ, zero, suc, ◌+◌, ◌<◌}
use native.Mathlib.Omega.{arith}
use native.Mathlib.Nat.{not-suc-le-zero}
use lib.ListN.{length, get_or}
use borrow.Author.Tests.{eq-eqb}
use Rattle.plain.specs.Utf8.{decode}
use Rattle.plain.specs.Edit.{replaced}
use Rattle.plain.specs.Outcome.{Outcome, Outcome.value, Outcome.refused}
use Rattle.plain_note.specs.Note.{Note, Mark.at}
use Rattle.plain_calls.specs.Marks.{mark_of}
use Rattle.plain_calls.specs.Calls.{Call, Call.insert, Call.remove, Call.set_mark, Call.drop_mark, Call.look, Said, Said.is, called, left, after_all}
use Rattle.plain_calls.specs.Fits.{Fits}
use Rattle.plain_history.specs.History.{Behind, Behind.none, Behind.followers, Told, up_from, set_at, joined, begun, rewritten, names, tell, told, told_all, first_in, stands}
use Rattle.plain_history.specs.Words.{Numbers, drops, Undropped, Directly, Stood}
use Rattle.plain_history.proofs.Kept.{kept-all, kept-start, marks-follow}

-- ── the place ──

-- THEOREM: what `first_in` is
pub first-directly : (f : ℕ → Bool) (order : List ℕ) → Directly f order (first_in f order)
unfolding first_in
first-directly f [] = record { within = omega arith; before = λ i h. absurd (not-suc-le-zero h); here = λ h. absurd (not-suc-le-zero h) }
first-directly f (x ∷ xs) = go (f x) refl (first-directly f xs)
  where
    go : (t : Bool) → f x ≡ t → Directly f xs (first_in f xs) → Directly f (x ∷ xs) (cond t 0 (suc (first_in f xs)))
    go true e r = record { within = omega arith; before = λ i h. absurd (not-suc-le-zero h); here = λ h. e }
    go false e r = record { within = omega (arith, r.within); before = before; here = λ h. r.here (omega arith) }
      where
        before : (i : ℕ) → i < suc (first_in f xs) → f (get_or (x ∷ xs) i 0) ≡ false
        before zero h = e
        before (suc i) h = r.before i (omega arith)

-- ── a mark that is not dropped stays live ──

abbrev Live : Behind → Type 0
Live none = ⊥
Live (followers f) = Unit {0}

live-joined : (order : List ℕ) (s : ℕ) (new : List ℕ) (b : Behind) → Live b → Live (joined order s new b)
unfolding joined
live-joined order s new none r = r
live-joined order s new (followers f) r = tt

live_cond : (x : Bool) (b c : Behind) → Live b → Live c → Live (cond x b c)
live_cond true b c r q = r
live_cond false b c r q = q

live-told : (k : ℕ) (t : Told) (c : Call) (o : Outcome (Said × Note)) → drops k c o ≡ false → Live t.behind → Live (told k t c o).behind
unfolding tell set_at
live-told k t (insert p piece) (value a) e r = live-joined t.order p (up_from t.next (length (decode piece))) t.behind r
live-told k t (remove s e') (value a) e r = live-joined t.order s [] t.behind r
live-told k t (set_mark p) (value a) e r = live_cond (names a.0 k) (set_at (at p) t.order) t.behind tt r
live-told k t (drop_mark j) (value a) e r = rw e r
live-told k t (look l) (value a) e r = r
live-told k t c (refused n) e r = r

live_all : (k : ℕ) (t : Told) (N : Note) (cs : List Call) → Undropped k N cs → Live t.behind → Live (told_all k t N cs).behind
live_all k t N [] u r = r
live_all k t N (c ∷ cs) u r = live_all k (told k t c (called N c)) (left N (called N c)) cs u.1 (live-told k t c (called N c) u.0 r)

-- ── where it stands ──

stood : (N : Note) (t : Told) (k : ℕ) (b : Behind) → t.behind ≡ b → Live b → mark_of N k ≡ stands b t.order → Stood N t k
unfolding stands
stood N t k none e r q = absurd r
stood N t k (followers f) e r q = record { place = first_in f t.order; who = f; there = q; told-so = e; directly = first-directly f t.order }

stood-all : (N : Note) → Fits N → (cs : List Call) (k : ℕ) → Live (told_all k (begun k N) N cs).behind → Stood (after_all N cs) (told_all k (begun k N) N cs) k
stood-all N f cs k live = let t = told_all k (begun k N) N cs in stood (after_all N cs) t k t.behind refl live (marks-follow N f cs k)

-- THEOREM: a mark that is live at the start of the sequence and not dropped in it stands directly before its first surviving follower
pub mark-stands : (N : Note) → Fits N → (cs : List Call) (k q : ℕ) → mark_of N k ≡ at q → Undropped k N cs → Stood (after_all N cs) (told_all k (begun k N) N cs) k
mark-stands N f cs k q e u = stood-all N f cs k (live_all k (begun k N) N cs u start)
  where
    start : Live (begun k N).behind
    start = unfold begun in rw e tt

told-append : (k : ℕ) (t : Told) (N : Note) (a b : List Call) → told_all k t N (a ++ b) ≡ told_all k (told_all k t N a) (after_all N a) b
told-append k t N [] b = refl
told-append k t N (c ∷ a) b = told-append k (told k t c (called N c)) (left N (called N c)) a b

-- THEOREM: and so does a mark that is set in the sequence, by the number that the call answered, and not dropped since
pub set-mark-stands : (N : Note) → Fits N → (a b : List Call) (p k : ℕ) (M : Note) → called (after_all N a) (set_mark p) ≡ value (is k, M) → Undropped k M b
    → Stood (after_all N (a ++ (set_mark p ∷ b))) (told_all k (begun k N) N (a ++ (set_mark p ∷ b))) k
set-mark-stands N f a b p k M e u = stood-all N f (a ++ (set_mark p ∷ b)) k live
  where
    t : Told
    t = told_all k (begun k N) N a

    set-live : Live (tell k t (set_mark p) (is k)).behind
    set-live = unfold tell in rw (eq-eqb k k refl) tt

    live : Live (told_all k (begun k N) N (a ++ (set_mark p ∷ b))).behind
    live =
        rw (told-append k (begun k N) N a (set_mark p ∷ b))
        (subst (λ (o : Outcome (Said × Note)). Live (told_all k (told k t (set_mark p) o) (left (after_all N a) o) b).behind) (sym e) (live_all k (tell k t (set_mark p) (is k)) M b u set-live))

-- ── numbers ──

-- THEOREM: one for each char, each its own
pub numbers-own : (N : Note) → Fits N → (cs : List Call) (k : ℕ)
    → (length (told_all k (begun k N) N cs).order ≡ length (after_all N cs).text) × Numbers (told_all k (begun k N) N cs).order (told_all k (begun k N) N cs).next
numbers-own N f cs k = let r = kept-all k N (begun k N) cs f (kept-start k N f) in (r.same, r.numbers)

-- THEOREM: they do not depend on the mark that is asked for
abbrev Alike : Told → Told → Type 0
Alike t u = (t.order ≡ u.order) × (t.next ≡ u.next)

alike-rewritten : (s e m : ℕ) (t u : Told) → Alike t u → Alike (rewritten s e m t) (rewritten s e m u)
alike-rewritten s e m t u r = (λ i. replaced s e (up_from (r.1 i) m) (r.0 i), ap (λ (x : ℕ). x + m) r.1)

alike-told : (k j : ℕ) (t u : Told) (c : Call) (o : Outcome (Said × Note)) → Alike t u → Alike (told k t c o) (told j u c o)
unfolding tell
alike-told k j t u (insert p piece) (value a) r = alike-rewritten p p (length (decode piece)) t u r
alike-told k j t u (remove s e) (value a) r = alike-rewritten s e 0 t u r
alike-told k j t u (set_mark p) (value a) r = r
alike-told k j t u (drop_mark i) (value a) r = r
alike-told k j t u (look l) (value a) r = r
alike-told k j t u c (refused n) r = r

alike_all : (k j : ℕ) (t u : Told) (N : Note) (cs : List Call) → Alike t u → Alike (told_all k t N cs) (told_all j u N cs)
alike_all k j t u N [] r = r
alike_all k j t u N (c ∷ cs) r = alike_all k j (told k t c (called N c)) (told j u c (called N c)) (left N (called N c)) cs (alike-told k j t u c (called N c) r)

pub same_numbers : (k j : ℕ) (N : Note) (cs : List Call) → (told_all k (begun k N) N cs).order ≡ (told_all j (begun j N) N cs).order
unfolding begun
same_numbers k j N cs = (alike_all k j (begun k N) (begun j N) N cs (refl, refl)).0
