-- `parts::outside` meets its contract: the test as a number.
use mathlib.Core.Path.{refl}
use native.Mathlib.Omega.{arith}
use Rattle.str_indices.specs.Out.{is_out}
use Rattle.str_indices.proofs.Laws.{test-is}
use Rattle.str_indices.proofs.parts.outside.Goals as goal

pub returns : goal.returns
unfolding is_out
returns c = let t = is_out c.args.lo c.args.hi c.args.b in let s = test-is t t refl in (omega arith, omega arith)
