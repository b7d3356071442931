-- `take_out` meets its contract: no call is refused.
use Rattle.merge.proofs.Settled.{removed-never, stored-never, settle-merged}
use Rattle.merge.proofs.take_out.Goals as goal

pub returns-in_err-rest : goal.returns-in_err-rest
returns-in_err-rest c =
    removed-never c.args.m.now c.args.slot c.args.idx1 c.args.idx2 c.args.list c.requires.0 c.requires.1 c.requires.2 c.requires.3 c.requires.4 c.remove-rest.result c.remove-rest.ensures _ c.in_err-rest.was

pub returns-in_err-store : goal.returns-in_err-store
returns-in_err-store c =
    stored-never c.args.m.now c.args.slot c.args.idx1 c.args.idx2 c.args.list c.requires.0 c.requires.1 c.requires.2 c.requires.3 c.requires.4 c.remove-rest.result c.remove-rest.ensures c.store.result _ c.store.ensures _ c.in_err-store.was

pub returns : goal.returns
returns c =
    settle-merged c.args.m.now c.args.slot c.args.idx1 c.args.idx2 c.args.list c.requires.0 c.requires.1 c.requires.2 c.requires.3 c.requires.4 c.remove-rest.result c.remove-rest.ensures c.store.result _ c.store.ensures c.update_child_info.result _ c.update_child_info.ensures
