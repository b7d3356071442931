-- `place_behind` meets its contract: a run has at most as many chars as bytes.
use mathlib.Core.Path.{ap, ◌∙◌}
use Prim.Native.Nat.{ℕ, ◌+◌}
use native.Mathlib.Omega.{arith}
use Rattle.plain.specs.Count.{count_if}
use Rattle.plain.specs.Place.{is_start}
use Rattle.text_info.proofs.Counts.{count-le}
use Rattle.reader.proofs.place_behind.Goals as goal

pub overflow_add-result : goal.overflow_add-result
overflow_add-result c = record { fits = omega (arith, c.count.ensures, c.run_at.ensures.1, count-le is_start c.run_at.result.now) }

pub returns : goal.returns
returns c =
    ap (λ (k : ℕ). c.args.p + k) (c.count.ensures ∙ ap (count_if is_start) c.run_at.ensures.0)
