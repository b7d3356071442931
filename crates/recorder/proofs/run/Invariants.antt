-- `run` meets its contract: so many turns are taken as the loop has made.
use mathlib.Core.Path.{◌≡◌}
use lib.ListN.{length}
use Rattle.recorder.specs.Program.{Running}
use Rattle.recorder.proofs.run.Given as goal

abbrev pub invariant-loop-turn : goal.invariant-loop-turn
invariant-loop-turn g l = Running l.m l.buf l.st l._turn × (length l.m ≡ length l.initial.m) × (length l.buf ≡ length l.initial.buf) × (length l.out ≡ length l.initial.out)
