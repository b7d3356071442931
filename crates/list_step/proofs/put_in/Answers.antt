-- `put_in` meets its contract: no such child, counts that are too wide, or the entry written.
use Rattle.answer.proofs.Opened.{raised}
use mathlib.Core.Path.{refl}
use Prim.Native.Nat.{◌<◌}
use native.Mathlib.Omega.{arith}
use Rattle.answer.specs.declared.Refusal.TheVariants as Refusal·case
use Rattle.pool.specs.Slot.{len_of}
use Rattle.list_step.proofs.Rules.{step-refused}
use Rattle.list_step.proofs.One.{one-past, entry-never, entry-put, one-refused-by, one-small, one_same}
use Rattle.list_step.proofs.put_in.Goals as goal

pub returns-then-n-idx : goal.returns-then-n-idx
returns-then-n-idx c =
    let a = c.args in
    step-refused _ a.m.now Refusal·case.Place _ (one-past a.m.now a.slot a.idx a.info c.requires.0 (omega (arith, c.requires.1, c.if-n-idx.true))) refl

pub returns-then-n-lt-MIN_LEN : goal.returns-then-n-lt-MIN_LEN
returns-then-n-lt-MIN_LEN c =
    let a = c.args in
    let h : a.idx < len_of a.m.now a.slot = omega (arith, c.requires.1, c.if-n-idx.false) in
    let t = c.total_with in
    one-small a.m.now a.slot a.idx a.info c.requires.0 h t.result t.ensures _ c.in_ok-all.was _ c.requires.1 _ (entry-put a.m.now a.slot a.idx a.info c.requires.0 h _ _ c.set_info.ensures) c.if-n-lt-MIN_LEN.true

pub returns-in_err-all : goal.returns-in_err-all
returns-in_err-all c = rw (raised c.from_residual.ensures.1) (
    let a = c.args in
    let h : a.idx < len_of a.m.now a.slot = omega (arith, c.requires.1, c.if-n-idx.false) in
    let t = c.total_with in
    one-refused-by a.m.now a.slot a.idx a.info c.requires.0 h t.result t.ensures _ _ c.in_err-all.was refl)

pub returns-in_err-set_info : goal.returns-in_err-set_info
returns-in_err-set_info c =
    let a = c.args in
    let h : a.idx < len_of a.m.now a.slot = omega (arith, c.requires.1, c.if-n-idx.false) in
    entry-never a.m.now a.slot a.idx a.info c.requires.0 h _ _ c.set_info.ensures _ c.in_err-set_info.was

pub returns-else-n-lt-MIN_LEN : goal.returns-else-n-lt-MIN_LEN
returns-else-n-lt-MIN_LEN c =
    let a = c.args in
    let h : a.idx < len_of a.m.now a.slot = omega (arith, c.requires.1, c.if-n-idx.false) in
    let t = c.total_with in
    one_same a.m.now a.slot a.idx a.info c.requires.0 h t.result t.ensures _ c.in_ok-all.was _ c.requires.1 _ (entry-put a.m.now a.slot a.idx a.info c.requires.0 h _ _ c.set_info.ensures) c.if-n-lt-MIN_LEN.false
