-- `from_char` meets its contract: the search, and what is left of the leaf.
use mathlib.Core.Path.{refl}
use native.Mathlib.Omega.{arith}
use Rattle.note_head.proofs.Part.{part-of-part}
use Rattle.leaf_parts.proofs.Found.{chars-none, chars-found}
use Rattle.leaf_parts.proofs.from_char.Goals as goal

pub returns-in_default : goal.returns-in_default
returns-in_default c =
    let a = c.args in
    (chars-none a.m.now a.at c.spot_of.result _ c.spot_of.ensures.0 c.in_default.is, record { from = 0; block = refl; offset = omega arith; inside = omega arith })

pub returns : goal.returns
returns c =
    let a = c.args in
    (chars-found a.m.now a.at c.spot_of.result _ _ c.text_at-text.result.now _ c.spot_of.ensures.0 c.in-Ok.is c.text_at-text.ensures.0 c.above-i.ensures _ c.byte_in.ensures.0 _ c.behind.ensures.0, part-of-part _ _ _ c.behind.ensures.1 c.text_at-text.ensures.2)
