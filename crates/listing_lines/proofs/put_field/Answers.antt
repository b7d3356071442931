use mathlib.Core.Path.{sym, ◌∙◌}
use Prim.Native.Nat.{◌+◌}
use borrow.Author.Tests.{not-true, not-false, leb-true}
use lib.ListN.{length}
use Rattle.plain_journal.specs.Listing.{field_line}
use Rattle.listing_lines.proofs.Laws.{no_room, with-room}
use Rattle.listing_lines.proofs.put_field.Goals as goal

pub returns-then-not-has_room : goal.returns-then-not-has_room
returns-then-not-has_room c =
    let a = c.args in
    no_room 50 a.at (field_line a.k a.code) a.out.now (sym c.has_room.ensures ∙ not-true _ c.if-not-has_room.true-raw)

pub field_line-requires : goal.field_line-requires
field_line-requires c =
    let a = c.args in
    leb-true (a.at + 50) (length a.out.now) (sym c.has_room.ensures ∙ not-false _ c.if-not-has_room.false-raw)

pub returns : goal.returns
returns c =
    let a = c.args in
    let w = c.field_line in
    with-room 50 a.at (field_line a.k a.code) a.out.now w.result w.new.out (sym c.has_room.ensures ∙ not-false _ c.if-not-has_room.false-raw) w.ensures
