-- `told::code_of` meets its contract, in each of the two cases.
use mathlib.Core.Path.{◌≡◌}
use Prim.Native.Nat.{ℕ}
use Rattle.std.specs.Prelude.{Ok, Err, MatchOption}
use Rattle.std.specs.Result.{result_err}
use Rattle.answer.specs.Answers.{refusal_number, Answer, outcome}
use Rattle.told.specs.Told.{code}
use Rattle.told.proofs.code_of.Goals as goal

coded : (v : Answer (Unit {0})) (n : ℕ) → MatchOption (result_err v) (n ≡ 0) (λ q. n ≡ refusal_number q) → n ≡ code (outcome v)
unfolding code
coded (Ok a) n h = h
coded (Err q) n h = h

pub returns : goal.returns
returns c = let h = c.map_or.ensures in coded c.args.v c.map_or.result (rw (c.err.ensures.value) at h)
