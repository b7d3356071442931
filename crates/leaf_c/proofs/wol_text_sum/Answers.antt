-- `leaf_c::wol_text_sum` meets its contract: what `sub` or `add` ensures.
use Rattle.leaf_c.proofs.Laws.{sum_less, sum_more}
use Rattle.leaf_c.proofs.wol_text_sum.Goals as goal

pub returns-then-minus : goal.returns-then-minus
returns-then-minus c = sum_less _ _ _ _ c.if-minus.true c.sub-after.ensures

pub returns-else-minus : goal.returns-else-minus
returns-else-minus c = sum_more _ _ _ _ c.if-minus.false c.add-after.ensures
