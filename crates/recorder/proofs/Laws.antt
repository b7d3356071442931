-- A turn and a read as steps of the program, and why a turn is refused.
use Rattle.std.specs.Prelude.{Ok, Err, Result}
use mathlib.Core.Path.{◌≡◌, refl, sym, ap, subst, ◌∙◌}
use mathlib.Core.Bool.{Bool, true, false}
use mathlib.Core.List.{List, [], ◌++◌}
use Prim.Native.Nat.{ℕ, ◌+◌, ◌-◌, ◌^◌, ◌≤◌}
use native.Mathlib.Omega.{arith}
use lib.Dec.{eqb}
use lib.ListN.{length, take, drop}
use lib.Seq.{take-add}
use borrow.Author.Tests.{eqb-true, eqb-false, eq-eqb, ne_eqb, le-ltb}
use Rattle.plain.specs.Outcome.{mapped}
use Rattle.plain.proofs.Logic.{cut}
use Rattle.plain.proofs.Outcome.{clash, one-passed}
use Rattle.answer.specs.declared.Refusal.{Refusal}
use Rattle.answer.specs.Answers.{refusal_number, Answer, outcome}
use Rattle.pool.specs.Calls.{Wrote}
use Rattle.opening.specs.Opened.{misfit, opened_memory, opens}
use Rattle.journal.specs.declared.State.{State}
use Rattle.plain_note.specs.Note.{opened, need}
use Rattle.memory.specs.Formed.{well_formed, note_of}
use Rattle.plain_journal.specs.Replay.{slots}
use Rattle.journal.specs.Turns.{started, Advances, Turns, Taken}
use Rattle.journal.specs.Runs.{Runs.starts, Runs.turns, Runs.reads, Runs.ends}
use Rattle.journal.proofs.Turns.{turn-taken}
use Rattle.journal.proofs.Runs.{run-formed}
use Rattle.recorder.specs.declared.Fault.{Fault}
use Rattle.recorder.specs.declared.Fault.TheVariants.{Fields, Read}
use Rattle.recorder.specs.Program.{turns_in, Running, Reads, Fails, Pumps}

-- ── a read ──

-- nothing came exactly where the buffer holds as much as it did
last-is : (fill n : ℕ) → eqb n 0 ≡ eqb (fill + n) fill
last-is fill n = go (eqb n 0) refl
  where
    go : (t : Bool) → eqb n 0 ≡ t → eqb n 0 ≡ eqb (fill + n) fill
    go true e = e ∙ sym (eq-eqb (fill + n) fill (omega (arith, eqb-true n 0 e)))
    go false e = let ne : n ≡ 0 → ⊥ = eqb-false n 0 e in e ∙ sym (ne_eqb (fill + n) fill (λ z. ne (omega arith)))

pub read_is : (st : State) (fill n : ℕ) → ◌≡◌ {A = State} (record { fill = fill + n; k = st.k; last = eqb n 0; over = false; put = 0 }) (record { fill = fill + n; k = st.k; last = eqb (fill + n) fill; over = false; put = 0 })
read_is st fill n = ap (λ (t : Bool). record { fill = fill + n; k = st.k; last = t; over = false; put = 0 }) (last-is fill n)

-- ── the start ──

pub start-runs : (m b : List ℕ) (st : State) → well_formed m ≡ true → note_of m ≡ opened slots → st ≡ started → Running m b st 0
unfolding turns_in
start-runs m b st ok is e = subst (λ (x : State). Running m b x 0) (sym e) (record { came = []; wrote = []; runs = starts m b ok is; count = refl; fill-le = omega arith })

-- memory of what 80 slots need is not refused
pub start-accepted : (m after : List ℕ) (r : Answer (Unit {0})) (q : Refusal) → Wrote (opens m slots) m r after → need slots ≤ length m → r ≡ Err q → ⊥
unfolding opens
start-accepted m after r q w h e =
    let fits : misfit slots (length m) ≡ false = le-ltb (length m) (need slots) h in
    clash (refusal_number q) tt (ap outcome (sym e) ∙ w.answered ∙ ap (mapped (λ t. tt)) (one-passed 1 (misfit slots (length m)) (opened_memory m slots) fits))

-- ── a turn ──

module _ (m m' b b' o o' : List ℕ) (st r : State) (on : st.over ≡ false) (a : Advances m m' b b' st o o' r) (same : length b' ≡ length b) where
  pub turn-runs : (n : ℕ) → Running m b st n → Running m' b' r (n + 1)
  unfolding turns_in
  turn-runs n run =
      record {
        came = run.came;
        wrote = run.wrote ++ take r.put o';
        runs = turns run.came run.wrote m m' b b' o o' st r run.runs on a;
        count = ap (λ (i : ℕ). i + 1) run.count;
        fill-le = omega (arith, a.fill-le, run.fill-le);
      }

  -- and a read behind it, where it used nothing
  read-on : (b'' : List ℕ) (s : State) → r.over ≡ false → r.fill ≡ st.fill → Reads b' b'' r (Ok s) → (n : ℕ) → Running m b st n → Running m' b'' s (n + 1)
  unfolding turns_in
  read-on b'' s over f w n run = go s.last refl
    where
      t : Running m' b' r (n + 1)
      t = turn-runs n run

      going : r.last ≡ false
      going = a.same-last ∙ (a.starves over f).0

      number : s.k ≡ r.k
      number = ap (λ (x : State). x.k) w.3

      still : s.over ≡ r.over
      still = ap (λ (x : State). x.over) w.3 ∙ sym over

      last : s.last ≡ eqb s.fill r.fill
      last = ap (λ (x : State). x.last) w.3

      chunk : List ℕ
      chunk = take (s.fill - r.fill) (drop r.fill b'')

      behind : take s.fill b'' ≡ take r.fill b' ++ chunk
      behind =
          let z : s.fill ≡ r.fill + (s.fill - r.fill) = omega (arith, w.0) in
          ap (λ (i : ℕ). take i b'') z ∙ take-add r.fill (s.fill - r.fill) b'' ∙ ap (λ (l : List ℕ). l ++ chunk) w.2

      go : (u : Bool) → s.last ≡ u → Running m' b'' s (n + 1)
      go true l =
          record {
            came = t.came;
            wrote = t.wrote;
            runs = ends t.came t.wrote m' b' b'' r s t.runs (ap (λ (i : ℕ). take i b'') (eqb-true s.fill r.fill (sym last ∙ l)) ∙ w.2) number still l;
            count = t.count;
            fill-le = w.1;
          }
      go false l =
          record {
            came = t.came ++ chunk;
            wrote = t.wrote;
            runs = reads t.came t.wrote m' b' b'' chunk r s t.runs going behind number still l;
            count = t.count;
            fill-le = w.1;
          }

  pub read-runs : (b'' : List ℕ) (x : Result State Fault) → r.over ≡ false → r.fill ≡ st.fill → Reads b' b'' r x → Pumps m m' b b'' st x
  read-runs b'' (Err why) over f w = subst (λ (y : Fault). Fails m m' b b'' st y) (sym w) (b', o, o', r, a, over)
  read-runs b'' (Ok s) over f w = read-on b'' s over f w

-- a turn that was taken
pub taken_is : (m m' b b' o o' : List ℕ) (st r : State) (t : Answer State) → Turns m m' b b' st o o' t → t ≡ Ok r → st.over ≡ false → Advances m m' b b' st o o' r
taken_is m m' b b' o o' st r t w e on = (subst (λ (x : Answer State). Taken m m' b b' st o o' (outcome x)) e w.taken).1 on

-- THEOREM: where the buffers are long enough, a turn of the program is refused only where its fields run out of numbers.
pub refused-is : (m m' b b' o o' : List ℕ) (st : State) (q : Refusal) (t : Answer State) (n : ℕ) → Running m b st n → 20690 ≤ length o → Turns m m' b b' st o o' t → t ≡ Err q → Fails m m' b b' st Fields
refused-is m m' b b' o o' st q t n run room w e =
    cut (2 ^ 64 - 1 - st.fill) st.k
    (λ l. (l, left.0, left.1))
    (λ l. clash (refusal_number q) tt (ap (λ (x : Answer State). mapped {B = Unit {0}} (λ s. tt) (outcome x)) (sym e) ∙ w.answered ∙ sym (turn-taken m b o st (run-formed run.came run.wrote m b st run.runs) run.fill-le l room)))
  where
    left : (m' ≡ m) × (b' ≡ b) × (o' ≡ o)
    left = subst (λ (x : Answer State). Taken m m' b b' st o o' (outcome x)) e w.taken

-- ── what became of a step ──

pub pumps-on : (m m' b b' : List ℕ) (st : State) (x : Result State Fault) (r : State) → Pumps m m' b b' st x → x ≡ Ok r → (n : ℕ) → Running m b st n → Running m' b' r (n + 1)
pumps-on m m' b b' st x r w e = subst (λ (y : Result State Fault). Pumps m m' b b' st y) e w

pub pumps-failed : (m m' b b' : List ℕ) (st : State) (x : Result State Fault) (why : Fault) → Pumps m m' b b' st x → x ≡ Err why → Fails m m' b b' st why
pumps-failed m m' b b' st x why w e = subst (λ (y : Result State Fault). Pumps m m' b b' st y) e w
