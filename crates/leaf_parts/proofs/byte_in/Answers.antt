-- `byte_in` meets its contract: what `to_byte_idx` ensures, and that it lies in the text.
use native.Mathlib.Omega.{arith}
use Rattle.plain.proofs.Place.{place-le}
use Rattle.plain.specs.Place.{start_chars}
use Rattle.leaf_parts.proofs.byte_in.Goals as goal

pub returns : goal.returns
returns c =
    let a = c.args in
    (c.to_byte_idx.ensures, omega (arith, c.to_byte_idx.ensures, place-le start_chars a.text.now a.i))
