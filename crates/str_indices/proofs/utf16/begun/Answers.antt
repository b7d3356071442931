-- `utf16::begun` meets its contract: the two tests as numbers.
use mathlib.Core.Path.{refl}
use native.Mathlib.Omega.{arith}
use Rattle.plain.specs.Place.{is_wide, start_units}
use Rattle.str_indices.proofs.Laws.{test-is}
use Rattle.str_indices.proofs.utf16.begun.Goals as goal

pub overflow_add-result : goal.overflow_add-result
unfolding is_wide
overflow_add-result c =
    let s = test-is _ _ c.starts.ensures in
    let w = test-is (is_wide c.args.b) _ refl in
    omega arith

pub returns : goal.returns
unfolding is_wide start_units
returns c =
    let s = test-is _ _ c.starts.ensures in
    let w = test-is (is_wide c.args.b) (is_wide c.args.b) refl in
    (omega arith, omega arith)
