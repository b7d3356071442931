-- `mark_place` meets its contract.
use mathlib.Core.Path.{◌≡◌, sym, ap, ◌∙◌}
use Prim.Native.Nat.{◌+◌, ◌*◌}
use native.Mathlib.Omega.{arith}
use Rattle.octets.specs.Big.{four_at}
use Rattle.note_head.specs.Head.{mark_start, place_at}
use Rattle.octets.proofs.Past.{four-past}
use Rattle.note_head.proofs.mark_place.Goals as goal

pub returns-then-m-lt-PLACES_AT : goal.returns-then-m-lt-PLACES_AT
unfolding place_at
returns-then-m-lt-PLACES_AT c = let a = c.args in (sym (four-past a.m.now (mark_start a.k + 4) (omega arith)), omega arith)

pub returns-then-m-k : goal.returns-then-m-k
unfolding place_at
returns-then-m-k c = let a = c.args in (sym (four-past a.m.now (mark_start a.k + 4) (omega arith)), omega arith)

pub returns : goal.returns
unfolding place_at
returns c =
    let a = c.args in
    let e : 2052 + 16 * a.k ≡ mark_start a.k + 4 = omega arith in
    (c.number_at.ensures.0 ∙ ap (four_at a.m.now) e, c.number_at.ensures.1)
