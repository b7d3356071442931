-- `moves::exchange` meets its contract: the rest of the leaf is moved first, then the piece laid before it.
use mathlib.Core.Path.{◌∙◌}
use Prim.Native.Nat.{◌+◌, ◌-◌}
use native.Mathlib.Omega.{arith}
use lib.ListN.{length, drop, length-drop}
use Rattle.leaf_bytes.proofs.Copies.{paste-whole}
use Rattle.leaf_bytes.proofs.Laid.{exchanged}
use Rattle.leaf_bytes.proofs.moves.exchange.Goals as goal

pub returns : goal.returns
returns c =
    let a = c.args in
    let r = a.region.now in
    exchanged r a.len a.start a.end a.piece.now _ _ c.requires.0 c.requires.1 c.requires.2 c.requires.3
    (c.copy_within.ensures.after ∙ paste-whole r (a.start + length a.piece.now) (drop a.end r) (a.len - a.end) (omega (arith, length-drop a.end r))) c.put.ensures
