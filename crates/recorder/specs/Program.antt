-- What the program's steps promise: that it does nothing but take turns, write what they put, and read behind what the buffer holds; and how it ends. Which
-- bytes the system read or wrote, and to which file, no contract can say.
use Rattle.std.specs.Prelude.{Result, Ok, Err, ◌≡◌, true, false, List, ℕ, ◌+◌, ◌-◌, ◌^◌, ◌≤◌, ◌<◌, eqb, length, take}
use Rattle.journal.specs.declared.State.{State}
use Rattle.journal.specs.Turns.{Advances}
use Rattle.journal.specs.Runs.{Runs, Runs.starts, Runs.turns, Runs.reads, Runs.ends}
use Rattle.recorder.specs.declared.Fault.{Fault}
use Rattle.recorder.specs.declared.Fault.TheVariants.{Memory, Fields, Read, Write}
use Rattle.recorder.specs.declared.Ran.{Ran}
use Rattle.recorder.specs.declared.Ran.TheVariants as Ran·case

-- how many turns a run has taken
unfoldable pub turns_in : (came wrote m b : List ℕ) (st : State) → Runs came wrote m b st → ℕ
turns_in _ _ _ _ _ (starts m b ok is) = 0
turns_in _ _ _ _ _ (turns came wrote m m' b b' o o' st r s on a) = turns_in came wrote m b st s + 1
turns_in _ _ _ _ _ (reads came wrote m b b' chunk st r s going is k over last) = turns_in came wrote m b st s
turns_in _ _ _ _ _ (ends came wrote m b b' st r s is k over last) = turns_in came wrote m b st s

-- for some input read and some output written, the program has come here by n turns
pub record Running (m b : List ℕ) (st : State) (n : ℕ) : Type 0 where
  pub came : List ℕ
  pub wrote : List ℕ
  pub runs : Runs came wrote m b st
  pub count : turns_in came wrote m b st runs ≡ n
  pub fill-le : st.fill ≤ length b

-- A read: what the buffer held stays, and what comes lies behind it. The input has ended exactly where nothing came.
abbrev pub Reads : List ℕ → List ℕ → State → Result State Fault → Type 0
Reads b b' st (Err why) = why ≡ Read
Reads b b' st (Ok r) =
    (st.fill ≤ r.fill) × (r.fill ≤ length b') × (take st.fill b' ≡ take st.fill b) × (r ≡ record { fill = r.fill; k = st.k; last = eqb r.fill st.fill; over = false; put = 0 })

-- Why a turn's step ends the program: its fields run out of numbers, and nothing has changed; or the turn was taken, and the read that was then due, or the
-- write of what it put, failed.
abbrev pub Fails : List ℕ → List ℕ → List ℕ → List ℕ → State → Fault → Type 0
Fails m m' b b' st Memory = ⊥
Fails m m' b b' st Fields = (2 ^ 64 - 1 - st.fill < st.k) × (m' ≡ m) × (b' ≡ b)
Fails m m' b b' st Read = (b'' : List ℕ) × (o : List ℕ) × (o' : List ℕ) × (r : State) × Advances m m' b b'' st o o' r × (r.over ≡ false)
Fails m m' b b' st Write = (o : List ℕ) × (o' : List ℕ) × (r : State) × Advances m m' b b' st o o' r

abbrev pub Pumps : List ℕ → List ℕ → List ℕ → List ℕ → State → Result State Fault → Type 0
Pumps m m' b b' st (Err why) = Fails m m' b b' st why
Pumps m m' b b' st (Ok r) = (n : ℕ) → Running m b st n → Running m' b' r (n + 1)

-- How a run ends: with the listing complete; by a fault of a step; or when all turns are taken, 2 ^ 64 - 1 of them.
abbrev pub Ended : List ℕ → List ℕ → Result Ran Fault → Type 0
Ended m b (Ok Ran·case.Over) = (st : State) × (n : ℕ) × Running m b st n × (st.over ≡ true)
Ended m b (Err why) = (m₁ : List ℕ) × (b₁ : List ℕ) × (st : State) × (n : ℕ) × Running m₁ b₁ st n × (st.over ≡ false) × Fails m₁ m b₁ b st why
Ended m b (Ok Ran·case.Long) = (st : State) × Running m b st (2 ^ 64 - 1) × (st.over ≡ false)
