-- `text_c::wol_ask` meets its contract: what `ask_by` ensures, told.
use Rattle.told.proofs.Laws.{told}
use Rattle.text_c.proofs.wol_ask.Goals as goal

pub returns : goal.returns
returns c =
    let t = told _ _ _ _ _ c.ask_by.ensures c.tell.ensures in
    (t.coded, t.written)
