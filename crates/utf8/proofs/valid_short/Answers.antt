-- `utf8::valid_short` meets its contract: what is due of all bytes, where none is due before them.
use mathlib.Core.Path.{◌∙◌}
use native.Mathlib.Omega.{arith}
use lib.ListN.{length}
use Rattle.plain.specs.Utf8.{valid_utf8}
use Rattle.utf8.specs.Classed.{classed}
use Rattle.utf8.proofs.Classes.{due-none}
use Rattle.utf8.proofs.valid_short.Goals as goal

pub run-d-requires : goal.run-d-requires
unfolding classed
run-d-requires c = record { t = tt; a_le_e = (omega arith, omega arith) }

pub returns : goal.returns
unfolding valid_utf8
returns c =
    let s = c.args.text.now in
    due-none _ _ _ s (length s) (omega arith) ∙ c.run-d.ensures
