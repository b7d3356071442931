-- `check` meets its contract.
use mathlib.Core.Path.{sym, ap, ◌∙◌}
use native.Mathlib.Omega.{arith}
use Rattle.plain_note.specs.Note.{need}
use Rattle.memory.proofs.Whole.{few-slots, many-slots, short-memory, part-slots, part_length, whole-so}
use Rattle.memory.proofs.check.Goals as goal

pub returns-then-n-lt-MIN_SLOTS : goal.returns-then-n-lt-MIN_SLOTS
returns-then-n-lt-MIN_SLOTS c = let n = c.slots-n in few-slots c.args.m.now n.result n.ensures.0 (omega arith)

pub returns-then-n-gt-MAX_SLOTS : goal.returns-then-n-gt-MAX_SLOTS
returns-then-n-gt-MAX_SLOTS c = let n = c.slots-n in many-slots c.args.m.now n.result n.ensures.0 (omega arith)

pub returns-then-m-end : goal.returns-then-m-end
returns-then-m-end c =
    let n = c.slots-n in
    let m = c.args.m.now in
    short-memory m n.result n.ensures.0 _ c.need-end.ensures c.if-m-end.true

pub slice_bounds-check_own-end : goal.slice_bounds-check_own-end
slice_bounds-check_own-end c =
    let m = c.args.m.now in
    sym (part_length m _ c.need-end.ensures (omega arith))

pub check_own-requires : goal.check_own-requires
check_own-requires c =
    let n = c.slots-n in
    let m = c.args.m.now in
    let e = c.need-end.ensures in
    (n.ensures.0 ∙ part-slots m _ e, omega arith, omega arith, part_length m _ e (omega arith) ∙ e ∙ ap need (sym n.ensures.0))

pub returns : goal.returns
returns c =
    let n = c.slots-n in
    let m = c.args.m.now in
    whole-so m n.result n.ensures.0 _ c.need-end.ensures (omega arith) (omega arith) (omega arith) c.check_own.result c.check_own.ensures
