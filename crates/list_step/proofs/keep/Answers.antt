-- `keep` meets its contract: the counts refused, or the list stored, small or not.
use Rattle.answer.proofs.Opened.{raised}
use mathlib.Core.Path.{refl}
use Rattle.list_step.proofs.Stored.{keep-refused, keep-never, keep-small, keep_same}
use Rattle.list_step.proofs.keep.Goals as goal

pub returns-then-list-lt-MIN_LEN : goal.returns-then-list-lt-MIN_LEN
returns-then-list-lt-MIN_LEN c =
    let o = c.list_info in
    keep-small c.args.m.now c.args.slot c.args.list c.requires.0 c.requires.1 o.result o.ensures _ c.in_ok-info.was _ _ c.store.ensures c.if-list-lt-MIN_LEN.true

pub returns-in_err-info : goal.returns-in_err-info
returns-in_err-info c = rw (raised c.from_residual.ensures.1) (
    let o = c.list_info in
    keep-refused c.args.m.now c.args.slot c.args.list c.requires.0 c.requires.1 o.result o.ensures _ _ c.in_err-info.was refl)

pub returns-in_err-store : goal.returns-in_err-store
returns-in_err-store c =
    let o = c.list_info in
    keep-never c.args.m.now c.args.slot c.args.list c.requires.0 c.requires.1 o.result o.ensures _ c.in_ok-info.was _ _ c.store.ensures _ c.in_err-store.was

pub returns-else-list-lt-MIN_LEN : goal.returns-else-list-lt-MIN_LEN
returns-else-list-lt-MIN_LEN c =
    let o = c.list_info in
    keep_same c.args.m.now c.args.slot c.args.list c.requires.0 c.requires.1 o.result o.ensures _ c.in_ok-info.was _ _ c.store.ensures c.if-list-lt-MIN_LEN.false
