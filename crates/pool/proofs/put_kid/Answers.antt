-- `put_kid` meets its contract: five numbers, one behind the other.
use Rattle.pool.proofs.Kids.{kid-laid}
use Rattle.pool.proofs.put_kid.Goals as goal

pub returns : goal.returns
returns c =
    let a = c.args in
    let e₁ = c.write_u32.ensures in
    let e₂ = c.write_u32-2.ensures in
    let e₃ = c.write_u32-3.ensures in
    let e₄ = c.write_u32-4.ensures in
    let e₅ = c.write_u32-5.ensures in
    kid-laid a.m.now _ _ _ _ _ a.at a.k c.requires e₁ e₂ e₃ e₄ e₅
