-- What taking a free slot and giving one back come to: document 01's refusal 2, the answer, and every byte afterwards.
use Rattle.answer.specs.Answers.{Answer, outcome}
use Rattle.std.specs.Prelude.{◌≡◌, Bool, ◌||◌, List, [], ◌∷◌, ℕ}
use Rattle.plain.specs.Outcome.{Outcome, ruled, past, kept, mapped}
use Rattle.pool.specs.Slot.{kind_of, next_of, head_put}
use Rattle.pool.specs.Calls.{outside}
use Rattle.note_head.specs.Head.{free_of}
use Rattle.note_head.specs.Writes.{number_put}

-- 2: no free slot, by the memory's end or by its kind
abbrev pub no_free : List ℕ → ℕ → Bool
no_free m s = outside m s || past (kind_of m s) 0

-- the memory where the slot behind the first free one is the first
abbrev pub taken_memory : List ℕ → List ℕ
taken_memory m = number_put m 32 (next_of m (free_of m))

unfoldable pub taken : List ℕ → Outcome (ℕ × List ℕ)
taken m = ruled ((2, no_free m (free_of m)) ∷ []) (free_of m, taken_memory m)

-- 2: no slot of the memory, or none that 32 bits name
abbrev pub no_gift : List ℕ → ℕ → Bool
no_gift m s = past s 4294967295 || outside m s

-- the memory where slot s is free and the first, the one that was the first behind it
abbrev pub given_memory : List ℕ → ℕ → List ℕ
given_memory m s = number_put (head_put m s 0 0 (free_of m)) 32 s

unfoldable pub given : List ℕ → ℕ → Outcome (List ℕ)
given m s = ruled ((2, no_gift m s) ∷ []) (given_memory m s)

-- A call that writes and answers a number. A refused one changes no byte.
pub record Took (o : Outcome (ℕ × List ℕ)) (before : List ℕ) (r : Answer ℕ) (after : List ℕ) : Type 0 where
  pub answered : outcome r ≡ mapped (λ p. p.0) o
  pub memory : after ≡ kept before (mapped (λ p. p.1) o)
