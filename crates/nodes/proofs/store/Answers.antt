-- `store` meets its contract: the head first, then the entries.
use Rattle.answer.proofs.Opened.{passed}
use Rattle.nodes.proofs.Rules.{store-not, store-done, head-there}
use Rattle.nodes.proofs.store.Goals as goal

pub returns-in_err-set_list : goal.returns-in_err-set_list
returns-in_err-set_list c = rw (passed c.in_err-set_list.was c.from_residual.ensures.1) (let a = c.args in store-not a.m.now a.slot a.list _ _ _ c.set_list.ensures c.in_err-set_list.was)

pub write_entries-requires : goal.write_entries-requires
write_entries-requires c = let a = c.args in head-there a.m.now a.slot a.list _ _ c.set_list.ensures c.in_ok-set_list.was

pub returns : goal.returns
returns c =
    let a = c.args in
    let w = c.write_entries in
    store-done a.m.now a.slot a.list _ _ w.result _ c.set_list.ensures c.in_ok-set_list.was w.ensures.0 w.ensures.1 w.ensures.2
