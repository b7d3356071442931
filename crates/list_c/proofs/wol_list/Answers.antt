-- `list_c::wol_list` meets its contract: what `ask_by` ensures, in each of the two cases.
use Rattle.list_c.proofs.Laws.{list-is, list-refused}
use Rattle.list_c.proofs.wol_list.Goals as goal

pub returns-in-Ok : goal.returns-in-Ok
returns-in-Ok c = list-is _ _ _ _ _ c.ask_by.ensures _ _ _ _ _ c.in-Ok.is

pub returns-in-Err : goal.returns-in-Err
returns-in-Err c = list-refused _ _ _ _ _ c.ask_by.ensures _ _ c.in-Err.is c.from.ensures
