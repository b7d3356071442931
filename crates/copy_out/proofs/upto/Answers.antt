-- `upto` meets its contract: the part that `from_byte` gives, cut.
use mathlib.Core.Path.{sym}
use native.Mathlib.Omega.{arith}
use lib.Seq.{length-take-le}
use Rattle.copy_out.proofs.Copied.{upto-cut, upto_all}
use Rattle.copy_out.proofs.upto.Goals as goal

pub returns-then-part-n : goal.returns-then-part-n
returns-then-part-n c = let a = c.args in upto_all a.m.now c.own_part.result.now a.i a.b c.own_part.ensures.0 _ c.from_byte-part.ensures c.if-part-n.true

pub slice_bounds-result-end : goal.slice_bounds-result-end
slice_bounds-result-end c = sym (length-take-le _ c.from_byte-part.result.now (omega arith))

pub returns : goal.returns
returns c = let a = c.args in upto-cut a.m.now c.own_part.result.now a.i a.b c.own_part.ensures.0 _ c.from_byte-part.ensures
