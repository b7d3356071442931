use mathlib.Core.Path.{sym, ◌∙◌}
use Prim.Native.Nat.{◌+◌}
use borrow.Author.Tests.{not-true, not-false, leb-true}
use lib.ListN.{length}
use Rattle.plain_journal.specs.Listing.{totals_line}
use Rattle.listing_lines.proofs.Laws.{no_room, with-room}
use Rattle.listing_lines.proofs.put_totals.Goals as goal

pub returns-then-not-has_room : goal.returns-then-not-has_room
returns-then-not-has_room c =
    let a = c.args in
    no_room 110 a.at (totals_line a.bytes a.chars a.utf16 a.lines) a.out.now (sym c.has_room.ensures ∙ not-true _ c.if-not-has_room.true-raw)

pub totals_line-requires : goal.totals_line-requires
totals_line-requires c =
    let a = c.args in
    leb-true (a.at + 110) (length a.out.now) (sym c.has_room.ensures ∙ not-false _ c.if-not-has_room.false-raw)

pub returns : goal.returns
returns c =
    let a = c.args in
    let w = c.totals_line in
    with-room 110 a.at (totals_line a.bytes a.chars a.utf16 a.lines) a.out.now w.result w.new.out (sym c.has_room.ensures ∙ not-false _ c.if-not-has_room.false-raw) w.ensures
