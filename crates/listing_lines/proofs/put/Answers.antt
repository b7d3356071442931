-- `listing_lines::put` meets its contract: what `copy_from_slice` ensures, of the part from `at` on.
use mathlib.Core.Path.{refl, sym}
use Prim.Native.Nat.{◌+◌}
use native.Mathlib.Omega.{arith}
use lib.ListN.{length}
use Rattle.listing_lines.proofs.Laws.{put_is, rest-is}
use Rattle.listing_lines.proofs.put.Goals as goal

pub returns : goal.returns
returns c =
    let a = c.args in
    let k = c.copy_from_slice in
    (refl, rw k.ensures.after (put_is a.out.now a.piece.now a.at (omega arith)), rw k.ensures.after (rest-is a.out.now a.piece.now a.at (omega arith)))
