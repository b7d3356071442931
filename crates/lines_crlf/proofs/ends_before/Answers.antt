-- `ends_before` meets its contract: the test as a number.
use mathlib.Core.Path.{refl}
use mathlib.Core.Bool.{Bool, not, ◌&&◌, ◌||◌}
use native.Mathlib.Omega.{arith}
use lib.Dec.{eqb}
use Rattle.str_indices.proofs.Laws.{test-is}
use Rattle.lines_crlf.proofs.ends_before.Goals as goal

pub returns : goal.returns
returns c =
    let t : Bool = eqb c.args.b 0x0A || (eqb c.args.b 0x0D && not (eqb c.args.next 0x0A)) in
    let s = test-is t t refl in
    (omega arith, omega arith)
