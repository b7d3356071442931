-- `turn_at` meets its contract.
use mathlib.Core.Path.{refl, ap}
use lib.ListN.{set}
use Rattle.answer.proofs.Opened.{never-refused}
use Rattle.leaf_bytes.proofs.Opened.{value-is}
use Rattle.note_counts.proofs.turn_at.Goals as goal

pub returns-in_err-n : goal.returns-in_err-n
returns-in_err-n c = never-refused _ _ _ c.turned.ensures c.in_err-n.was

pub returns : goal.returns
returns c = let a = c.args in (refl, ap (set a.indices.now a.k) (value-is _ _ c.turned.ensures _ c.in_ok-n.was))
