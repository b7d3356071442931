-- `stale` meets its contract.
use Rattle.child_info.proofs.Counted.{stale-refused, stale-by}
use Rattle.child_info.proofs.checks.stale.Goals as goal

pub returns-in-Err : goal.returns-in-Err
returns-in-Err c = stale-refused c.text_info.result _ c.text_info.ensures _ _ c.in-Err.is

pub returns-in-Ok : goal.returns-in-Ok
returns-in-Ok c = stale-by c.text_info.result _ c.text_info.ensures _ _ _ c.in-Ok.is c.same_info.ensures
