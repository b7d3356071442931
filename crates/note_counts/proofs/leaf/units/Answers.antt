-- `units` meets its contract.
use native.Mathlib.Omega.{arith}
use Rattle.plain.specs.Place.{is_start, is_wide}
use Rattle.text_info.proofs.Counts.{count-le}
use Rattle.note_counts.proofs.leaf.units.Goals as goal

pub overflow_add-result : goal.overflow_add-result
overflow_add-result c = omega (arith, c.count.ensures, c.count_surrogates.ensures, count-le is_start c.args.text.now, count-le is_wide c.args.text.now)
