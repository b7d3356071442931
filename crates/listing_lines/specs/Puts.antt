-- What it is to put a line behind the first bytes of an output.
use Rattle.std.specs.Prelude.{◌≡◌, List, ◌++◌, ℕ, ◌+◌, ◌≤◌, ◌<◌, length, take, drop}

-- A text laid behind the first `at` bytes of o, which leaves o': r tells how far the output is then filled, and what lies behind that is as it was.
abbrev pub Laid : ℕ → List ℕ → List ℕ → ℕ → List ℕ → Type 0
Laid at text o r o' = (r ≡ at + length text) × (take r o' ≡ take at o ++ text) × (drop r o' ≡ drop r o)

-- A line put there. Where fewer than `room` bytes are free, which is as long as such a line can be, nothing is put.
abbrev pub Puts : ℕ → ℕ → List ℕ → List ℕ → ℕ → List ℕ → Type 0
Puts room at line o r o' = (at + room ≤ length o → (r ≤ at + room) × Laid at line o r o') × (length o < at + room → (r ≡ at) × (o' ≡ o))
