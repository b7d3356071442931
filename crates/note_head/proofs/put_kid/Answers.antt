-- `put_kid` meets its contract: five numbers, one behind the other.
use Rattle.pool.proofs.Kids.{kid-laid}
use Rattle.note_head.proofs.put_kid.Goals as goal

pub returns : goal.returns
returns c =
    let a = c.args in
    let e₁ = c.put_number.ensures in
    let e₂ = c.put_number-2.ensures in
    let e₃ = c.put_number-3.ensures in
    let e₄ = c.put_number-4.ensures in
    let e₅ = c.put_number-5.ensures in
    kid-laid a.m.now _ _ _ _ _ a.at a.k c.requires e₁ e₂ e₃ e₄ e₅
