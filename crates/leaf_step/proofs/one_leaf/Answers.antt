-- `one_leaf` meets its contract.
use Rattle.leaf_step.proofs.Rules.{info-never, info-value, told-small, told_same}
use Rattle.leaf_step.proofs.one_leaf.Goals as goal

pub returns-then-len-lt-MIN_BYTES : goal.returns-then-len-lt-MIN_BYTES
returns-then-len-lt-MIN_BYTES c = told-small _ _ _ (info-value _ _ c.info_of.ensures _ c.in_ok-info.was) c.if-len-lt-MIN_BYTES.true

pub returns-in_err-info : goal.returns-in_err-info
returns-in_err-info c = info-never _ _ c.info_of.ensures _ c.in_err-info.was

pub returns : goal.returns
returns c = told_same _ _ _ (info-value _ _ c.info_of.ensures _ c.in_ok-info.was) c.if-len-lt-MIN_BYTES.false
