-- `slot_start` meets its contract: the two tests are one, by a division that cannot wrap.
use mathlib.Core.Path.{sym, ◌∙◌}
use mathlib.Core.List.{[]}
use native.Mathlib.Omega.{arith}
use Rattle.plain.proofs.Outcome.{rules-passed}
use Rattle.pool.specs.Slot.{slot_start}
use Rattle.pool.proofs.Rules.{slot-outside, slot-inside}
use Rattle.pool.proofs.slot_start.Goals as goal

pub returns-then-m-lt-HEAD_BYTES : goal.returns-then-m-lt-HEAD_BYTES
returns-then-m-lt-HEAD_BYTES c = slot-outside c.args.m.now c.args.slot [] (slot_start c.args.slot) (omega arith)

pub returns-then-m-slot : goal.returns-then-m-slot
returns-then-m-slot c = slot-outside c.args.m.now c.args.slot [] (slot_start c.args.slot) (omega arith)

pub returns : goal.returns
returns c = let a = c.args in sym (slot-inside a.m.now a.slot [] (slot_start a.slot) (omega arith) ∙ rules-passed (slot_start a.slot))
