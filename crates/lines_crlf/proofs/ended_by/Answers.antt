-- `ended_by` meets its contract. The loop's invariant: the breaks counted, with those still to come, are all breaks.
use mathlib.Core.Path.{◌≡◌, ap}
use Prim.Native.Nat.{ℕ}
use native.Mathlib.Omega.{arith}
use lib.ListN.{drop}
use Rattle.plain.specs.Count.{breaks}
use Rattle.plain.proofs.Count.{line-drop}
use Rattle.lines_crlf.proofs.ended_by.Goals as goal

pub returns : goal.returns
returns c =
    let text = c.args.text.now in
    let e : c.loop-i.i ≡ c.args.byte_idx = omega arith in
    (omega (arith, line-drop text c.args.byte_idx, ap (λ (k : ℕ). breaks (drop k text)) e), omega arith)
