-- `survey::of_text` meets its contract: the bytes before the last, and the last.
use mathlib.Core.Path.{sym, ap}
use mathlib.Core.List.{List}
use Prim.Native.Nat.{ℕ, ◌+◌, ◌-◌}
use native.Mathlib.Omega.{arith}
use lib.ListN.{length, get_or, drop_of_length-le}
use Rattle.plain.specs.Count.{bit, ends}
use Rattle.plain.proofs.Count.{break-turn, break-end}
use Rattle.lines_crlf.proofs.Tops.{tops-none, tops-more, tops-all}
use Rattle.lines_crlf.proofs.survey.of_text.Goals as goal

pub returns-then-text-eq0 : goal.returns-then-text-eq0
returns-then-text-eq0 c = let text = c.args.text.now in (tops-all text 0 0 (omega arith) (tops-none text 0), sym (break-end text 0 (omega arith)))

pub returns : goal.returns
returns c =
    let text = c.args.text.now in
    let last : ℕ = length text - 1 in
    let most = c.of_most-s in
    let none = drop_of_length-le text {i = last + 1} (omega arith) in
    let alone = ap (λ (r : List ℕ). bit (ends (get_or text last 0) r)) none in (
      tops-all text (last + 1) c.higher.result (omega arith) (tops-more text 0 last most.result.high c.higher.result (omega arith) most.ensures.0 c.higher.ensures),
      omega (arith, alone, break-turn text last (omega arith), break-end text (last + 1) (omega arith)),
    )
