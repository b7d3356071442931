-- A child of height h, as laws of a list of children name it: the bytes below it, whether it is sound and told right, and how often it
-- uses a slot.
use Rattle.std.specs.Prelude.{Bool, ◌&&◌, List, ℕ}
use Rattle.pool.specs.declared.Kid.{Kid}
use Rattle.tree.specs.Tree.{bytes_below, uses, sum_over, sound, least_at, told_right}

abbrev pub below : List ℕ → ℕ → Kid → List ℕ
below m h k = bytes_below m h k.slot

abbrev pub fine : List ℕ → ℕ → Kid → Bool
fine m h k = sound m (least_at h) h k.slot && told_right m h k

-- how often all of them use the slot x
abbrev pub uses_of : List ℕ → ℕ → List Kid → ℕ → ℕ
uses_of m h ks x = sum_over (λ k. uses m h k.slot x) ks
