-- `moved_to` meets its contract, case by case.
use Rattle.std.proofs.Common.{sym, arith, le-ltb}
use Rattle.plain_calls.specs.Marks.{moved_to}
use Rattle.plain_calls.proofs.Marks.{moved_before, moved_inside}
use Rattle.marks.proofs.moved_to.Goals as goal

pub returns-then-q-s : goal.returns-then-q-s
returns-then-q-s c = let a = c.args in sym (moved_before a.s a.e a.new a.q (omega arith))

pub returns-then-q-e : goal.returns-then-q-e
returns-then-q-e c = let a = c.args in sym (moved_inside a.s a.e a.new a.q (omega arith) (omega arith))

pub returns-then-e-s : goal.returns-then-e-s
unfolding moved_to
returns-then-e-s c = let a = c.args in rw (le-ltb a.q a.s (omega arith), le-ltb a.q a.e (omega arith)) (omega arith)

pub returns : goal.returns
unfolding moved_to
returns c = let a = c.args in rw (le-ltb a.q a.s (omega arith), le-ltb a.q a.e (omega arith)) (omega arith)
