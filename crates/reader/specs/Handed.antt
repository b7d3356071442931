-- What a reader hands out, on any memory: the run at its place, the place behind that run, and all its runs until an empty one. And parts of any
-- kind, asked for one behind another.
use Rattle.std.specs.Prelude.{◌≡◌, cond, List, [], ◌∷◌, ◌++◌, ℕ, ◌+◌, ◌≤◌, ltb, length}
use Rattle.plain.specs.Count.{count_if}
use Rattle.plain.specs.Place.{is_start}
use Rattle.plain.specs.Outcome.{part, mapped}
use Rattle.plain_note.specs.Note.{read_from}
use Rattle.note_head.specs.Head.{root_of, own_of}
use Rattle.memory.specs.Formed.{of_note}
use Rattle.leaf_parts.specs.Parts.{from_char}

-- the memory that a reader made at p holds: the lent one, or none where it is refused
unfoldable pub pool_at : List ℕ → ℕ → List ℕ
unfolding read_from of_note
pool_at m p = part (mapped (λ t. m) (of_note m (λ N. read_from N p)))

-- from p to the end of its leaf; empty from the end on that the head says
unfoldable pub run_at : List ℕ → ℕ → List ℕ
unfolding from_char own_of root_of
run_at m p = cond (ltb p (root_of m).info.chars) (from_char (own_of m) p) []

abbrev pub behind_of : List ℕ → ℕ → ℕ
behind_of m p = p + count_if is_start (run_at m p)

-- the parts that a call f gives from the place p on, each asked for behind the one before: none of them empty, and behind them an empty one
abbrev pub InTurn : (ℕ → List ℕ) → ℕ → List (List ℕ) → Type 0
InTurn f p [] = [] ≡ f p
InTurn f p (r ∷ rs) = (r ≡ f p) × (1 ≤ length r) × InTurn f (p + count_if is_start (f p)) rs

-- the runs of a reader from p on
abbrev pub Runs : List ℕ → ℕ → List (List ℕ) → Type 0
Runs m p rs = InTurn (run_at m) p rs

abbrev pub joined : List (List ℕ) → List ℕ
joined [] = []
joined (r ∷ rs) = r ++ joined rs
