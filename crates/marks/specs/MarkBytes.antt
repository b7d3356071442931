-- The marks in the bytes of the memory's head: where one stands, one set, and all moved by an edit.
use Rattle.std.specs.Prelude.{ℕ, zero, suc, ◌+◌, ◌%◌, ◌^◌, cond, not, ◌||◌, List, [], ◌∷◌, ◌==◌, nat_le}
use Rattle.plain.specs.Outcome.{Outcome, ruled}
use Rattle.plain_calls.specs.Marks.{moved_to, raised}
use Rattle.note_head.specs.Head.{edit_of, live_at, place_at}
use Rattle.note_head.specs.Writes.{number_put, live_put, place_put, no_head, no_mark}

-- the place of mark k: 7 where it is not live
unfoldable pub standing_in : List ℕ → ℕ → Outcome ℕ
unfolding live_at place_at
standing_in m k = ruled ((7, nat_le 256 k || not (live_at m k == 1)) ∷ []) (place_at m k)

-- mark k live, at a place
abbrev pub mark_put : List ℕ → ℕ → ℕ → List ℕ
mark_put m k q = live_put (place_put m k q) k 1

unfoldable pub mark_set : List ℕ → ℕ → ℕ → Outcome (List ℕ)
mark_set m k q = ruled (no_head m ∷ no_mark k ∷ []) (mark_put m k q)

-- a live mark's place moved, in 32 bits; and the first k marks
unfoldable pub mark_moved : (ℕ → ℕ) → List ℕ → ℕ → List ℕ
unfolding live_at place_at
mark_moved f m k = cond (live_at m k == 1) (place_put m k (f (place_at m k) % 2 ^ 32)) m

unfoldable pub marks_moved : (ℕ → ℕ) → List ℕ → ℕ → List ℕ
unfolding mark_moved
marks_moved f m zero = m
marks_moved f m (suc k) = mark_moved f (marks_moved f m k) k

-- the n marks from k on moved; and the bytes that say whether they are live, added up
unfoldable pub run_moved : (ℕ → ℕ) → List ℕ → ℕ → ℕ → List ℕ
unfolding mark_moved
run_moved f m k zero = m
run_moved f m k (suc n) = mark_moved f (run_moved f m k n) (k + n)

unfoldable pub live_bytes : List ℕ → ℕ → ℕ → ℕ
unfolding live_at
live_bytes m k zero = 0
live_bytes m k (suc n) = live_bytes m k n + live_at m (k + n)

-- all marks moved, and the edit number raised, by an edit that puts so many new chars in the place of [s, e)
abbrev pub edited_put : List ℕ → ℕ → ℕ → ℕ → List ℕ
edited_put m s e new = number_put (marks_moved (moved_to s e new) m 256) 4 (raised (edit_of m))

unfoldable pub edited : List ℕ → ℕ → ℕ → ℕ → Outcome (List ℕ)
edited m s e new = ruled (no_head m ∷ []) (edited_put m s e new)
