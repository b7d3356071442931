-- `leaf_c::wol_text_info` meets its contract: what `from_str` ensures, in each of the two cases.
use Rattle.leaf_c.proofs.Laws.{info-is, info-refused}
use Rattle.leaf_c.proofs.wol_text_info.Goals as goal

pub returns-in-Ok : goal.returns-in-Ok
returns-in-Ok c = info-is _ _ _ _ _ c.from_str.ensures _ c.in-Ok.is

pub returns-in-Err : goal.returns-in-Err
returns-in-Err c = info-refused _ _ _ _ _ c.from_str.ensures _ _ c.in-Err.is c.from.ensures
