-- `two_leaves` meets its contract.
use Rattle.leaf_step.proofs.Rules.{info-never, info-value, told-two, chain-never, chain-there}
use Rattle.leaf_step.proofs.two_leaves.Goals as goal

pub returns-in_err-info : goal.returns-in_err-info
returns-in_err-info c = info-never _ _ c.info_of.ensures _ c.in_err-info.was

pub returns-in_err-other : goal.returns-in_err-other
returns-in_err-other c = info-never _ _ c.info_of-2.ensures _ c.in_err-other.was

pub returns-in_err-set_first_free : goal.returns-in_err-set_first_free
returns-in_err-set_first_free c =
    chain-never c.args.m.now c.args.slot c.args.next c.requires.0 _ _ c.set_first_free.ensures _ c.in_err-set_first_free.was

pub returns : goal.returns
returns c =
    let m = c.args.m.now in
    let left = info-value _ _ c.info_of.ensures _ c.in_ok-info.was in
    let right = info-value _ _ c.info_of-2.ensures _ c.in_ok-other.was in (
      told-two _ _ c.args.right _ _ left right,
      chain-there m c.args.slot c.args.next c.requires.0 _ _ c.set_first_free.ensures,
    )
