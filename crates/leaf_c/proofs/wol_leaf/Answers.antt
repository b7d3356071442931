-- `leaf_c::wol_leaf` meets its contract: what `ask_by` ensures, in each of the two cases.
use Rattle.leaf_c.proofs.Laws.{leaves-are, leaves-refused}
use Rattle.leaf_c.proofs.wol_leaf.Goals as goal

pub returns-in-Ok : goal.returns-in-Ok
returns-in-Ok c = leaves-are _ _ _ _ _ _ _ c.in-Ok.is c.ask_by.ensures

pub returns-in-Err : goal.returns-in-Err
returns-in-Err c = leaves-refused _ _ _ _ _ _ _ c.in-Err.is c.from.ensures c.ask_by.ensures
