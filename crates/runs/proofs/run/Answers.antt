-- `run` meets its contract: empty where its companion refuses, else from the char on.
use mathlib.Core.Path.{refl}
use native.Mathlib.Omega.{arith}
use Rattle.note_head.proofs.Part.{part-of-part}
use Rattle.runs.proofs.Rules.{run_none, run-some}
use Rattle.runs.proofs.run.Goals as goal

pub returns-in_default : goal.returns-in_default
returns-in_default c = (run_none c.args.m.now c.args.p c.run_refusal.result c.run_refusal.ensures _ c.in_default.is, record { from = 0; block = refl; offset = omega arith; inside = omega arith })

pub returns : goal.returns
returns c = (run-some c.args.m.now c.args.p c.run_refusal.result c.run_refusal.ensures c.in-Ok.is c.own_part.result.now _ c.own_part.ensures.0 c.from_char.ensures.0, part-of-part _ _ _ c.from_char.ensures.1 c.own_part.ensures.1)
