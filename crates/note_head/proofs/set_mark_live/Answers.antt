-- `set_mark_live` meets its contract: one store.
use mathlib.Core.Path.{refl}
use Prim.Native.Nat.{◌+◌, ◌*◌}
use native.Mathlib.Omega.{arith}
use Rattle.pool.proofs.Rules.{wrote-refused, wrote-done}
use Rattle.note_head.specs.Writes.{live_put, live_set}
use Rattle.note_head.proofs.Laid.{byte-laid, mark-short, mark-none, mark-it}
use Rattle.note_head.proofs.set_mark_live.Goals as goal

pub returns-then-m-lt-HEAD_BYTES : goal.returns-then-m-lt-HEAD_BYTES
unfolding live_set
returns-then-m-lt-HEAD_BYTES c = let a = c.args in wrote-refused _ _ _ 2 (mark-short a.m.now a.k (live_put a.m.now a.k a.live) (omega arith)) refl

pub returns-then-k-ge-MARKS : goal.returns-then-k-ge-MARKS
unfolding live_set
returns-then-k-ge-MARKS c = let a = c.args in wrote-refused _ _ _ 7 (mark-none a.m.now a.k (live_put a.m.now a.k a.live) (omega arith) (omega arith)) refl

pub returns : goal.returns
unfolding live_set
returns c =
    let a = c.args in
    wrote-done _ _ _ _ _ (mark-it a.m.now a.k (live_put a.m.now a.k a.live) (omega arith) (omega arith)) refl (byte-laid a.m.now (2048 + 16 * a.k) a.live (omega arith))
