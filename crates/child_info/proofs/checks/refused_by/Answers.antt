-- `refused_by` meets its contract.
use Rattle.child_info.proofs.Counted.{by_number, by-none}
use Rattle.child_info.proofs.checks.refused_by.Goals as goal

pub returns-in-Err : goal.returns-in-Err
returns-in-Err c = by_number c.text_info.result _ c.text_info.ensures _ _ _ c.in-Err.is c.from.ensures

pub returns-in-Ok : goal.returns-in-Ok
returns-in-Ok c = by-none c.text_info.result _ c.text_info.ensures _ _ c.in-Ok.is
