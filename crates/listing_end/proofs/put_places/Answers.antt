-- `put_places` meets its contract.
use mathlib.Core.Path.{refl, subst, ◌∙◌}
use mathlib.Core.List.{List, [], ◌++◌}
use Prim.Native.Nat.{ℕ}
use native.Mathlib.Omega.{arith}
use Rattle.plain_calls.specs.Marks.{mark_of}
use Rattle.memory.specs.Formed.{note_of}
use Rattle.listing_lines.specs.Puts.{Laid}
use Rattle.listing_lines.proofs.Laws.{then-laid}
use Rattle.listing_end.specs.MarkLines.{place_row, places}
use Rattle.listing_end.proofs.Laws.{marks-256, rows-turn, rows_end, place_none, place-one, laid_none}
use Rattle.listing_end.proofs.put_places.Goals as goal

pub loop-mark-init : goal.loop-mark-init
loop-mark-init c = (omega arith, omega arith, refl, ([], laid_none 0 c.args.out.now [] refl, refl))

pub put_place-n-requires : goal.put_place-n-requires
put_place-n-requires c = omega (arith, c.loop-mark.invariant.2, c.requires)

pub loop-mark-preserved : goal.loop-mark-preserved
loop-mark-preserved c =
    let a = c.args in
    let L = c.loop-mark in
    let r = c.put_place-n in
    let N = note_of a.m.now in
    let done = L.invariant.3.0 in
    let row = place_row (mark_of N L.mark) in (
      omega arith,
      omega (arith, r.ensures.0, L.invariant.1),
      r.auto.out ∙ L.invariant.2,
      (
        done ++ row,
        then-laid a.out.now L.out r.new.out done row 0 L.n r.result L.invariant.3.1 r.ensures.1,
        rows-turn (λ j. places) N.marks (λ j. place_row) (λ j. place-one) L.mark done (omega (arith, marks-256 a.m.now)) L.invariant.3.2,
      ),
    )

pub shape_of-out : goal.shape_of-out
shape_of-out c = c.loop-mark.invariant.2

pub returns : goal.returns
returns c =
    let a = c.args in
    let L = c.loop-mark in
    let N = note_of a.m.now in
    let all = rows_end (λ j. places) N.marks (λ j. place_none) L.mark L.invariant.3.0 (omega (arith, L.invariant.0, marks-256 a.m.now)) L.invariant.3.2 in
    (omega (arith, L.invariant.1, L.invariant.0), subst (λ (l : List ℕ). Laid 0 l a.out.now L.n L.out) all L.invariant.3.1)
