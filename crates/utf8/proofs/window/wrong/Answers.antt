-- `window::wrong` meets its contract: the windows before the text, two parts that lie on one another, and the text's end.
use Prim.Native.Nat.{◌-◌, ◌%◌}
use native.Mathlib.Omega.{arith}
use lib.ListN.{length}
use Rattle.utf8.proofs.Loops.{scan-whole}
use Rattle.utf8.proofs.window.wrong.Goals as goal

pub returns : goal.returns
returns c =
    let a = c.args in
    let s = a.text.now in
    let n = length s in
    scan-whole a.far s (n - (n - 3) % 32) (n - 32) c.head.result c.part.result c.part-2.result c.unfinished.result (omega arith) (omega arith) (omega arith) c.head.ensures c.part.ensures c.part-2.ensures c.unfinished.ensures
