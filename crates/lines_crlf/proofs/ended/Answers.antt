-- `ended` meets its contract: the byte, and the one behind it.
use mathlib.Core.Path.{◌∙◌}
use Prim.Native.Nat.{◌+◌}
use native.Mathlib.Omega.{arith}
use lib.ListN.{get_or}
use Rattle.lines_crlf.proofs.Laws.{ends_next}
use Rattle.lines_crlf.proofs.ended.Goals as goal

pub returns : goal.returns
returns c =
    let text = c.args.text.now in
    let i = c.args.i in
    (c.ends_before.ensures.0 ∙ ends_next text (i + 1) (get_or text i 0) (omega arith), c.ends_before.ensures.1)
