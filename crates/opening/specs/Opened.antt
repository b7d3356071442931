-- What opening comes to: document 01's refusal 1, and every byte of the memory that it leaves.
use Rattle.std.specs.Prelude.{Bool, ◌||◌, List, [], ◌∷◌, ◌++◌, ℕ, zero, suc, ◌+◌, ◌-◌, ltb, length, replicate}
use Rattle.plain.specs.Outcome.{Outcome, ruled, past}
use Rattle.plain_note.specs.Note.{need, head_size}
use Rattle.octets.specs.Over.{overlaid}
use Rattle.octets.specs.Big.{bytes_of4}
use Rattle.pool.specs.Slot.{head_put}

unfoldable pub zero_bytes : ℕ → List ℕ
zero_bytes k = replicate k 0

-- The 6,144 bytes of a new head: n; the edit number, a root in slot 0 with no text below it, and the height, all 0; the first free slot;
-- and no mark.
unfoldable pub new_head : ℕ → List ℕ
new_head n = bytes_of4 n ++ (zero_bytes 28 ++ (bytes_of4 1 ++ zero_bytes (head_size - 36)))

-- k slots from s on made free, each naming the one behind it
unfoldable pub frees_put : List ℕ → ℕ → ℕ → List ℕ
frees_put m s zero = m
frees_put m s (suc k) = frees_put (head_put m s 0 0 (s + 1)) (s + 1) k

-- the head, an empty leaf in slot 0, and all others free. What else lies in the slots is as it was, and so is what lies behind them
unfoldable pub opened_memory : List ℕ → ℕ → List ℕ
opened_memory m n = frees_put (head_put (overlaid 0 (new_head n) m) 0 1 0 0) 1 (n - 1)

-- 1: n outside 17 to 4,096, or memory shorter than the need
abbrev pub misfit : ℕ → ℕ → Bool
misfit n lent = ltb n 17 || (past n 4096 || past (need n) lent)

unfoldable pub opens : List ℕ → ℕ → Outcome (List ℕ)
opens m n = ruled ((1, misfit n (length m)) ∷ []) (opened_memory m n)
