-- `byte_at` meets its contract: a place of a well-formed note has a byte.
use Rattle.copy_out.proofs.Copied.{byte-there}
use Rattle.copy_out.proofs.byte_at.Goals as goal

pub returns : goal.returns
returns c =
    let a = c.args in
    byte-there a.m.now c.own_part.result.now a.p c.requires.0 c.requires.1 c.own_part.ensures.0 c.byte_of.result c.byte_of.ensures
