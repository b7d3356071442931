-- `set_root` meets its contract.
use mathlib.Core.Path.{refl}
use native.Mathlib.Omega.{arith}
use Rattle.pool.proofs.Rules.{wrote-refused, wrote-done}
use Rattle.note_head.proofs.Laid.{root-short, root-it}
use Rattle.note_head.proofs.set_root.Goals as goal

pub returns-then-m-lt-HEAD_BYTES : goal.returns-then-m-lt-HEAD_BYTES
returns-then-m-lt-HEAD_BYTES c =
    let a = c.args in
    (wrote-refused _ _ _ 2 (root-short a.m.now (omega arith) a.k) refl, record { slot = omega arith; bytes = omega arith; chars = omega arith; surrogates = omega arith; breaks = omega arith })

pub returns : goal.returns
returns c =
    let a = c.args in
    (wrote-done _ _ _ _ _ (root-it a.m.now (omega arith) a.k) refl c.put_kid.ensures, record { slot = omega arith; bytes = omega arith; chars = omega arith; surrogates = omega arith; breaks = omega arith })
