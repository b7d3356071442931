-- `utf8::step` meets its contract: a first byte asks by its row, a later one is in its range or ends all acceptance.
use native.Mathlib.Omega.{arith}
use borrow.Author.Rules.{rules}
use Rattle.plain.proofs.Table.{within_low, within-high, class-below}
use Rattle.utf8.proofs.Classes.{class-at, due-first, due-out, due-next}
use Rattle.utf8.proofs.step.Goals as goal

pub asks-requires : goal.asks-requires
asks-requires c = omega (arith, class-below c.args.b, class-at _ c.requires c.args.b (search rules))

pub returns-then-n-eq0 : goal.returns-then-n-eq0
returns-then-n-eq0 c = due-first _ _ _ _ _ _ _ _ c.if-n-eq0.true (class-at _ c.requires c.args.b (search rules)) c.asks.ensures

pub returns-then-b-low : goal.returns-then-b-low
returns-then-b-low c = due-out _ _ _ _ _ _ _ (omega arith) (within_low _ _ _ c.if-b-low.true) c.asks-then-b-low.ensures

pub returns-then-high-b : goal.returns-then-high-b
returns-then-high-b c = due-out _ _ _ _ _ _ _ (omega arith) (within-high _ _ _ c.if-high-b.true) c.asks-then-high-b.ensures

pub returns : goal.returns
returns c = due-next _ _ _ _ (omega arith) c.if-b-low.false c.if-high-b.false
