-- `set_height` meets its contract: one store.
use mathlib.Core.Path.{refl}
use native.Mathlib.Omega.{arith}
use Rattle.pool.proofs.Rules.{wrote-refused, wrote-done}
use Rattle.note_head.proofs.Laid.{byte-laid, height-short, height-it}
use Rattle.note_head.proofs.set_height.Goals as goal

pub returns-then-m-lt-HEAD_BYTES : goal.returns-then-m-lt-HEAD_BYTES
returns-then-m-lt-HEAD_BYTES c = let a = c.args in wrote-refused _ _ _ 2 (height-short a.m.now (omega arith) a.h) refl

pub returns : goal.returns
returns c =
    let a = c.args in
    wrote-done _ _ _ _ _ (height-it a.m.now (omega arith) a.h) refl (byte-laid a.m.now 28 a.h (omega arith))
