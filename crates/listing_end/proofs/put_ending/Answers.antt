-- `put_ending` meets its contract.
use Prim.Native.Nat.{ℕ}
use Rattle.answer.specs.Answers.{Answer}
use mathlib.Core.Path.{refl, sym, subst, ◌∙◌}
use mathlib.Core.Bool.{false≢true}
use Prim.Native.Nat.{◌+◌}
use lib.ListN.{length}
use lib.Seq.{length-take-le}
use borrow.Author.Tests.{not-true, not-false, leb-true}
use Rattle.memory.specs.Formed.{note_of}
use Rattle.plain_journal.specs.Listing.{ending}
use Rattle.listing_lines.proofs.Laws.{no_room, with-room}
use Rattle.listing_end.specs.MarkLines.{Lined}
use Rattle.listing_end.proofs.Lines.{lined-fits, lined-not}
use Rattle.listing_end.proofs.put_ending.Goals as goal

pub returns-then-not-has_room : goal.returns-then-not-has_room
returns-then-not-has_room c =
    let a = c.args in
    (λ z. no_room 20590 a.at (ending (note_of a.m.now)) a.out.now (sym c.has_room.ensures ∙ not-true _ c.if-not-has_room.true-raw), λ w. (refl, refl))

pub returns-in_default : goal.returns-in_default
returns-in_default c =
    let a = c.args in
    let put = c.put_lines in
    let bad = lined-not a.m.now put.new.out c.in_default.field-0 (subst (λ (r : Answer ℕ). Lined a.m.now r put.new.out) c.in_default.is put.ensures) in
    (λ ok. absurd (false≢true (sym bad ∙ ok)), λ w. (refl, refl))

pub slice_bounds-lines-end : goal.slice_bounds-lines-end
slice_bounds-lines-end c =
    let a = c.args in
    let put = c.put_lines in
    let f = lined-fits a.m.now put.new.out _ (subst (λ (r : Answer ℕ). Lined a.m.now r put.new.out) c.in-Ok.is put.ensures) in
    f.1

pub slice_bounds-whole_ending-end : goal.slice_bounds-whole_ending-end
slice_bounds-whole_ending-end c =
    let a = c.args in
    let put = c.put_lines in
    let f = lined-fits a.m.now put.new.out _ (subst (λ (r : Answer ℕ). Lined a.m.now r put.new.out) c.in-Ok.is put.ensures) in
    sym (length-take-le _ put.new.out f.1)

pub whole_ending-requires : goal.whole_ending-requires
whole_ending-requires c =
    let a = c.args in
    let put = c.put_lines in
    let f = lined-fits a.m.now put.new.out _ (subst (λ (r : Answer ℕ). Lined a.m.now r put.new.out) c.in-Ok.is put.ensures) in
    (f.0, f.2, leb-true (a.at + 20590) (length a.out.now) (sym c.has_room.ensures ∙ not-false _ c.if-not-has_room.false-raw))

pub returns : goal.returns
returns c =
    let a = c.args in
    let put = c.put_lines in
    let f = lined-fits a.m.now put.new.out _ (subst (λ (r : Answer ℕ). Lined a.m.now r put.new.out) c.in-Ok.is put.ensures) in
    let w = c.whole_ending in
    (λ z. with-room 20590 a.at (ending (note_of a.m.now)) a.out.now w.result w.new.out (sym c.has_room.ensures ∙ not-false _ c.if-not-has_room.false-raw) w.ensures, λ z. absurd (false≢true (sym z ∙ f.0)))
