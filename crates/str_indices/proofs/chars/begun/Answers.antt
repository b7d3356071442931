-- `chars::begun` meets its contract: the test as a number.
use native.Mathlib.Omega.{arith}
use Rattle.plain.specs.Place.{start_chars}
use Rattle.str_indices.proofs.Laws.{test-is}
use Rattle.str_indices.proofs.chars.begun.Goals as goal

pub returns : goal.returns
unfolding start_chars
returns c = let s = test-is _ _ c.starts.ensures in (omega arith, omega arith)
