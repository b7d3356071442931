-- `str_ends::tail_break` meets its contract: the cases of the last two bytes.
use Prim.Native.Nat.{◌-◌}
use native.Mathlib.Omega.{arith}
use lib.ListN.{length}
use Rattle.str_utils.proofs.Laws.{tail-empty, tail-cr, tail-other, tail-lf-alone, tail-cr-lf, tail-only-lf}
use Rattle.str_ends.proofs.tail_break.Goals as goal

pub returns-then-n-eq0 : goal.returns-then-n-eq0
returns-then-n-eq0 c = (tail-empty c.args.text.now (omega arith), omega arith)

pub returns-then-tail-eq13 : goal.returns-then-tail-eq13
returns-then-tail-eq13 c =
    let text = c.args.text.now in
    let m = length text - 1 in
    (tail-cr text m (omega arith) c.if-tail-eq13.true, omega arith)

pub returns-then-tail-ne10 : goal.returns-then-tail-ne10
returns-then-tail-ne10 c =
    let text = c.args.text.now in
    let m = length text - 1 in
    (tail-other text m (omega arith) c.if-tail-eq13.false c.if-tail-ne10.true, omega arith)

pub returns-then-n-eq1 : goal.returns-then-n-eq1
returns-then-n-eq1 c =
    let text = c.args.text.now in
    let m = length text - 1 in
    (tail-lf-alone text m (omega arith) c.if-tail-ne10.false (omega arith), omega arith)

pub returns-then-text-n-eq13 : goal.returns-then-text-n-eq13
returns-then-text-n-eq13 c =
    let text = c.args.text.now in
    let m = length text - 1 in
    (tail-cr-lf text m (length text - 2) (omega arith) (omega arith) c.if-tail-ne10.false c.if-text-n-eq13.true, omega arith)

pub returns-else-text-n-eq13 : goal.returns-else-text-n-eq13
returns-else-text-n-eq13 c =
    let text = c.args.text.now in
    let m = length text - 1 in
    (tail-only-lf text m (length text - 2) (omega arith) (omega arith) c.if-tail-ne10.false c.if-text-n-eq13.false, omega arith)
