-- What C is told of bytes that are written through a pointer.
use Rattle.std.specs.Prelude.{◌≡◌, List, ℕ, length}
use Rattle.plain.specs.Outcome.{Outcome, kept, mapped}
use Rattle.leaf_bytes.specs.Leaf as Leaf
use Rattle.told.specs.Told.{code}

-- bytes at the front of the output, and how many they are
pub record Copied (o : Outcome (List ℕ)) (out : List ℕ) (count : ℕ) (r : ℕ) (out-after : List ℕ) (count-after : ℕ) : Type 0 where
  pub coded : r ≡ code o
  pub output : out-after ≡ Leaf.written out o
  pub counted : count-after ≡ kept count (mapped length o)
