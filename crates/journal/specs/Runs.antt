-- A program that lists a journal: turns, with whatever chunks of input come between.
use Rattle.std.specs.Prelude.{◌≡◌, true, false, List, [], ◌++◌, ℕ, take}
use Rattle.plain_note.specs.Note.{opened}
use Rattle.memory.specs.Formed.{well_formed, note_of}
use Rattle.plain_journal.specs.Replay.{slots}
use Rattle.journal.specs.declared.State.{State}
use Rattle.journal.specs.Turns.{started, Advances}

-- `Runs came wrote m b st`: the input `came` has been read and `wrote` has been written, and then the memory is m, the buffer b and the state st.
pub data Runs : List ℕ → List ℕ → List ℕ → List ℕ → State → Type 0 where
  -- opened memory, nothing read
  starts : (m b : List ℕ) → well_formed m ≡ true → note_of m ≡ opened slots → Runs [] [] m b started
  -- a turn, and what it put is written
  turns : (came wrote m m' b b' o o' : List ℕ) (st r : State) → Runs came wrote m b st → st.over ≡ false → Advances m m' b b' st o o' r → Runs came (wrote ++ take r.put o') m' b' r
  -- more input, read behind what the buffer holds
  reads : (came wrote m b b' chunk : List ℕ) (st r : State) → Runs came wrote m b st → st.last ≡ false → take r.fill b' ≡ take st.fill b ++ chunk
      → r.k ≡ st.k → r.over ≡ st.over → r.last ≡ false → Runs (came ++ chunk) wrote m b' r
  -- the input's end
  ends : (came wrote m b b' : List ℕ) (st r : State) → Runs came wrote m b st → take r.fill b' ≡ take st.fill b → r.k ≡ st.k → r.over ≡ st.over → r.last ≡ true
      → Runs came wrote m b' r
