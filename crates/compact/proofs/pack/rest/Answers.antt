-- `rest` meets its contract: the removal is not refused.
use mathlib.Core.Path.{refl}
use Rattle.compact.proofs.Loops.{removed-never, removed-list, kept-list}
use Rattle.compact.proofs.pack.rest.Goals as goal

pub returns-in_default : goal.returns-in_default
returns-in_default c = removed-never _ _ c.requires.0 c.requires.1 c.remove-less.result c.remove-less.ensures _ c.in_default.is

pub returns-then-all : goal.returns-then-all
returns-then-all c = record { answered = refl; list = removed-list _ _ c.requires.0 c.requires.1 c.remove-less.result c.remove-less.ensures _ c.if-all.true }

pub returns : goal.returns
returns c = record { answered = refl; list = kept-list _ c.args.i _ c.if-all.false }
