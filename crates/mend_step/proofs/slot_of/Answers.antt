-- `slot_of` meets its contract.
use mathlib.Core.Path.{sym, ap}
use native.Mathlib.Omega.{arith}
use lib.Seq.{get_or-take}
use Rattle.pool.specs.declared.Kid.{Kid}
use Rattle.pool.specs.Slot.{no_kid}
use Rattle.mend_step.proofs.slot_of.Goals as goal

pub returns : goal.returns
returns c =
    let a = c.args in
    (sym (ap (λ (k : Kid). k.slot) (get_or-take a.list.len a.list.arr a.idx no_kid (omega arith))), omega arith)
