-- `count_to` meets its contract.
use mathlib.Core.Path.{sym}
use native.Mathlib.Omega.{arith}
use lib.Seq.{length-take-le}
use Rattle.plain.specs.Place.{is_start, is_wide}
use Rattle.note_counts.proofs.InLeaf.{count-few, lines-few}
use Rattle.note_counts.proofs.leaf.count_to.Goals as goal

pub slice_bounds-count-end : goal.slice_bounds-count-end
slice_bounds-count-end c = sym (length-take-le c.args.at c.args.text.now c.requires.0)

pub slice_bounds-units-end : goal.slice_bounds-units-end
slice_bounds-units-end c = sym (length-take-le c.args.at c.args.text.now c.requires.0)

pub units-requires : goal.units-requires
units-requires c = omega (arith, length-take-le c.args.at c.args.text.now c.requires.0, c.requires.0, c.requires.1)

pub returns-in-Chars : goal.returns-in-Chars
returns-in-Chars c = let a = c.args in (rw c.in-Chars.is c.count.ensures, omega (arith, c.count.ensures, count-few a.text.now a.at is_start c.requires.0, c.requires.0, c.requires.1))

pub returns-in-Units : goal.returns-in-Units
returns-in-Units c = let a = c.args in (rw c.in-Units.is c.units.ensures, omega (arith, c.units.ensures, count-few a.text.now a.at is_start c.requires.0, count-few a.text.now a.at is_wide c.requires.0, c.requires.0, c.requires.1))

pub returns-in-Lines : goal.returns-in-Lines
returns-in-Lines c = let a = c.args in (rw c.in-Lines.is c.from_byte_idx.ensures, omega (arith, c.from_byte_idx.ensures, lines-few a.text.now a.at, c.requires.1))
