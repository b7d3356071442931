use mathlib.Core.Path.{sym, ◌∙◌}
use Prim.Native.Nat.{◌+◌}
use borrow.Author.Tests.{not-true, not-false, leb-true}
use lib.ListN.{length}
use Rattle.plain_journal.specs.Listing.{mark_line}
use Rattle.listing_lines.proofs.Laws.{no_room, with-room}
use Rattle.listing_lines.proofs.put_mark.Goals as goal

pub returns-then-not-has_room : goal.returns-then-not-has_room
returns-then-not-has_room c =
    let a = c.args in
    no_room 80 a.at (mark_line a.k a.place a.line) a.out.now (sym c.has_room.ensures ∙ not-true _ c.if-not-has_room.true-raw)

pub mark_line-requires : goal.mark_line-requires
mark_line-requires c =
    let a = c.args in
    leb-true (a.at + 80) (length a.out.now) (sym c.has_room.ensures ∙ not-false _ c.if-not-has_room.false-raw)

pub returns : goal.returns
returns c =
    let a = c.args in
    let w = c.mark_line in
    with-room 80 a.at (mark_line a.k a.place a.line) a.out.now w.result w.new.out (sym c.has_room.ensures ∙ not-false _ c.if-not-has_room.false-raw) w.ensures
