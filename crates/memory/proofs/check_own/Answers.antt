-- `check_own` meets its contract.
use mathlib.Core.Path.{sym}
use native.Mathlib.Omega.{arith}
use Rattle.memory.proofs.Marks.{zeros-length}
use Rattle.memory.proofs.Whole.{ready-zeros}
use Rattle.memory.proofs.Room.{too-high}
use Rattle.memory.proofs.check_own.Goals as goal

pub returns-then-height-gt-MAX_HEIGHT : goal.returns-then-height-gt-MAX_HEIGHT
returns-then-height-gt-MAX_HEIGHT c =
    too-high c.args.m.now c.args.n c.requires.0 c.requires.2 c.requires.3 (omega (arith, c.if-height-gt-MAX_HEIGHT.true, c.height.ensures))

pub slice_bounds-check_with-end : goal.slice_bounds-check_with-end
slice_bounds-check_with-end c = sym (zeros-length c.args.n c.requires.2)

pub check_with-requires : goal.check_with-requires
check_with-requires c =
    ready-zeros c.args.m.now c.args.n c.requires.0 c.requires.1 c.requires.2 c.requires.3
