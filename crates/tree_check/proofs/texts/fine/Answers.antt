-- `fine` meets its contract: counts of bytes are those of the text.
use mathlib.Core.Path.{refl}
use Rattle.tree_check.proofs.Ends.{text-is}
use Rattle.tree_check.proofs.texts.fine.Goals as goal

pub returns : goal.returns
returns c =
    let p = c.requires in
    text-is c.args.text.now _ _ _ p.0 refl p.1 p.2 p.3 c.begins_lf.ensures c.ends_cr.ensures
