-- `take_row` meets its contract. The loop's invariant: the slots passed lie in a row.
use mathlib.Core.Path.{◌≡◌, sym, ap, subst, ◌∙◌}
use native.Mathlib.Omega.{arith}
use native.Mathlib.Numerals.{add-one}
use lib.ListN.{length-set}
use borrow.Author.Tests.{not-false}
use Rattle.plain_note.specs.Note.{need}
use Rattle.memory.specs.Checks.{Row}
use Rattle.memory.proofs.take_row.Goals as goal

pub in_row-requires : goal.in_row-requires
in_row-requires c = c.requires.0 ∙ ap need (sym c.loop-k.invariant.0)

pub loop-k-preserved : goal.loop-k-preserved
loop-k-preserved c =
    let a = c.args in
    let took = c.in_row.ensures (not-false _ c.if-not-in_row.false-raw) in
    (length-set c.loop-k.seen _ 1 ∙ c.loop-k.invariant.0, subst (Row a.m.now a.seen.now _ a.first) (sym (add-one c.loop-k.k)) (c.loop-k.seen, c.loop-k.invariant.1, took))

pub returns : goal.returns
returns c =
    let a = c.args in
    let e : c.loop-k.k ≡ a.most = omega arith in
    (omega arith, subst (Row a.m.now a.seen.now c.loop-k.seen a.first) e c.loop-k.invariant.1)
