-- `put_row` meets its contract.
use mathlib.Core.Path.{sym, ap, subst, ◌∙◌}
use mathlib.Core.List.{List}
use Prim.Native.Nat.{ℕ, ◌+◌, ◌≤◌, ◌<◌}
use native.Mathlib.Omega.{arith}
use lib.ListN.{length}
use Rattle.memory.specs.Formed.{note_of}
use Rattle.plain_journal.specs.Listing.{mark_line, mark_row}
use Rattle.listing_lines.specs.Puts.{Laid}
use Rattle.listing_end.proofs.Laws.{mark-free, mark-live, marks-256, laid_none, due-free, due-inside, due-line, due-next}
use Rattle.listing_end.proofs.put_row.Goals as goal

pub returns-in_default : goal.returns-in_default
returns-in_default c =
    let a = c.args in
    let N = note_of a.m.now in
    let none = mark-free a.m.now a.k _ c.standing_at.ensures _ c.in_default.is in
    let inside : a.k < length N.marks = omega (arith, marks-256 a.m.now, c.requires.0) in
    (omega arith, due-free N a.k a.put.count a.lines.now c.requires.1 inside none, laid_none a.put.end a.out.now _ (sym (ap (mark_row N.text a.k) none)))

pub offset_bounds-lines-j : goal.offset_bounds-lines-j
offset_bounds-lines-j c =
    let a = c.args in
    let N = note_of a.m.now in
    let here = mark-live a.m.now a.k _ c.standing_at.ensures _ c.in-Ok.is in
    let inside : a.k < length N.marks = omega (arith, marks-256 a.m.now, c.requires.0) in
    let j = due-inside N a.k a.put.count a.lines.now c.requires.1 inside _ here in
    omega (arith, j)

pub bounds-lines-j : goal.bounds-lines-j
bounds-lines-j c =
    let a = c.args in
    let N = note_of a.m.now in
    let here = mark-live a.m.now a.k _ c.standing_at.ensures _ c.in-Ok.is in
    let inside : a.k < length N.marks = omega (arith, marks-256 a.m.now, c.requires.0) in
    due-inside N a.k a.put.count a.lines.now c.requires.1 inside _ here

pub overflow_add-result : goal.overflow_add-result
overflow_add-result c =
    let a = c.args in
    let N = note_of a.m.now in
    let here = mark-live a.m.now a.k _ c.standing_at.ensures _ c.in-Ok.is in
    let inside : a.k < length N.marks = omega (arith, marks-256 a.m.now, c.requires.0) in
    let j = due-inside N a.k a.put.count a.lines.now c.requires.1 inside _ here in
    omega (arith, j)

pub returns : goal.returns
returns c =
    let a = c.args in
    let N = note_of a.m.now in
    let here = mark-live a.m.now a.k _ c.standing_at.ensures _ c.in-Ok.is in
    let inside : a.k < length N.marks = omega (arith, marks-256 a.m.now, c.requires.0) in
    let put = c.put_mark-end in
    let room : a.put.end + 80 ≤ length a.out.now = c.requires.2 in
    let v = put.ensures.0 room in (
      v.0,
      due-next N a.k a.put.count a.lines.now c.requires.1 inside _ here,
      subst (λ (l : List ℕ). Laid a.put.end l a.out.now put.result put.new.out)
          (ap (mark_line a.k c.in-Ok.p) (due-line N a.k a.put.count a.lines.now c.requires.1 inside _ here) ∙ sym (ap (mark_row N.text a.k) here)) v.1,
    )
