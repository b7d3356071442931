-- `str_ends::trim_line_break` meets its contract: an empty part where the text is refused, else the bytes before the break that ends it.
use mathlib.Core.Path.{sym, ap, ◌∙◌}
use Prim.Native.Nat.{ℕ, ◌-◌}
use native.Mathlib.Omega.{arith}
use borrow.Author.Tests.{not-true, not-false}
use lib.ListN.{length, take}
use lib.Seq.{length-take-le}
use Rattle.plain.specs.Count.{trimmed}
use Rattle.plain.proofs.Place.{trim-encode}
use Rattle.str_utils.proofs.Laws.{part-refused, part-is}
use Rattle.str_ends.proofs.trim_line_break.Goals as goal

pub returns-then-not-valid : goal.returns-then-not-valid
returns-then-not-valid c = part-refused _ _ (sym c.valid.ensures ∙ not-true _ c.if-not-valid.true-raw)

pub slice_bounds-result-end-2 : goal.slice_bounds-result-end-2
slice_bounds-result-end-2 c = sym (length-take-le _ _ (omega arith))

pub returns : goal.returns
unfolding trimmed
returns c =
    let text = c.args.text.now in
    part-is text _ trimmed trim-encode _ (sym c.valid.ensures ∙ not-false _ c.if-not-valid.false-raw)
    (ap (λ (n : ℕ). take (length text - n) text) c.tail_break.ensures.0)
