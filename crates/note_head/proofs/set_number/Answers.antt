-- `set_number` meets its contract.
use mathlib.Core.Path.{refl}
use native.Mathlib.Omega.{arith}
use Rattle.pool.proofs.Rules.{wrote-refused, wrote-done}
use Rattle.note_head.proofs.Laid.{number_short, number-it}
use Rattle.note_head.proofs.set_number.Goals as goal

pub returns-then-m-lt-HEAD_BYTES : goal.returns-then-m-lt-HEAD_BYTES
returns-then-m-lt-HEAD_BYTES c = let a = c.args in wrote-refused _ _ _ 2 (number_short a.m.now (omega arith) a.at a.v) refl

pub returns : goal.returns
returns c =
    let a = c.args in
    wrote-done _ _ _ _ _ (number-it a.m.now (omega arith) a.at a.v) refl c.put_number.ensures
