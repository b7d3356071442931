-- `put_rows` meets its contract.
use mathlib.Core.Path.{refl, subst, ◌∙◌}
use mathlib.Core.List.{List, [], ◌++◌}
use Prim.Native.Nat.{ℕ}
use native.Mathlib.Omega.{arith}
use Rattle.plain_calls.specs.Marks.{mark_of}
use Rattle.memory.specs.Formed.{note_of}
use Rattle.plain_journal.specs.Listing.{mark_row, mark_rows}
use Rattle.listing_lines.specs.Puts.{Laid}
use Rattle.listing_lines.proofs.Laws.{then-laid}
use Rattle.listing_end.proofs.Laws.{marks-256, rows-turn, rows_end, row-none, row_one, laid_none}
use Rattle.listing_end.proofs.put_rows.Goals as goal

pub loop-k-init : goal.loop-k-init
loop-k-init c = (omega arith, omega arith, refl, c.requires.0, ([], laid_none c.args.at c.args.out.now [] refl, refl))

pub put_row-put-requires : goal.put_row-put-requires
put_row-put-requires c = let L = c.loop-k in (omega arith, L.invariant.3, omega (arith, L.invariant.1, L.invariant.2, c.requires.1))

pub loop-k-preserved : goal.loop-k-preserved
loop-k-preserved c =
    let a = c.args in
    let L = c.loop-k in
    let r = c.put_row-put in
    let N = note_of a.m.now in
    let done = L.invariant.4.0 in
    let row = mark_row N.text L.k (mark_of N L.k) in (
      omega arith,
      omega (arith, r.ensures.0, L.invariant.1),
      r.auto.out ∙ L.invariant.2,
      r.ensures.1,
      (
        done ++ row,
        then-laid a.out.now L.out r.new.out done row a.at L.put.end r.result.end L.invariant.4.1 r.ensures.2,
        rows-turn (mark_rows N.text) N.marks (mark_row N.text) (row_one N.text) L.k done (omega (arith, marks-256 a.m.now)) L.invariant.4.2,
      ),
    )

pub shape_of-out : goal.shape_of-out
shape_of-out c = c.loop-k.invariant.2

pub returns : goal.returns
returns c =
    let a = c.args in
    let L = c.loop-k in
    let N = note_of a.m.now in
    let all = rows_end (mark_rows N.text) N.marks (row-none N.text) L.k L.invariant.4.0 (omega (arith, L.invariant.0, marks-256 a.m.now)) L.invariant.4.2 in
    (omega (arith, L.invariant.1, L.invariant.0), subst (λ (l : List ℕ). Laid a.at l a.out.now L.put.end L.out) all L.invariant.4.1)
