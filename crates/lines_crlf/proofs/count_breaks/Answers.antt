-- `count_breaks` meets its contract: the breaks up to the last byte, and the last byte's own.
use mathlib.Core.Path.{sym, ap}
use mathlib.Core.List.{List}
use Prim.Native.Nat.{ℕ, ◌+◌, ◌-◌}
use native.Mathlib.Omega.{arith}
use lib.ListN.{length, get_or, drop_of_length-le}
use Rattle.plain.specs.Count.{bit, ends}
use Rattle.plain.proofs.Count.{line-drop, break-turn, break-end}
use Rattle.lines_crlf.proofs.count_breaks.Goals as goal

pub returns-then-text-eq0 : goal.returns-then-text-eq0
returns-then-text-eq0 c = sym (break-end c.args.text.now 0 (omega arith))

pub returns : goal.returns
returns c =
    let text = c.args.text.now in
    let last : ℕ = length text - 1 in
    let none = drop_of_length-le text {i = last + 1} (omega arith) in
    let alone = ap (λ (r : List ℕ). bit (ends (get_or text last 0) r)) none in
    omega (arith, alone, line-drop text last, break-turn text last (omega arith), break-end text (last + 1) (omega arith))
