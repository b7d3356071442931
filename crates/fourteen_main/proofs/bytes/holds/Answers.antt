-- `fourteen_main::bytes::holds` meets its contract: the bytes that it compares are in the region.
use mathlib.Core.Path.{◌≡◌, sym}
use mathlib.Core.Bool.{true, false}
use lib.Seq.{length-take-le}
use Rattle.fourteen_main.proofs.bytes.holds.Goals as goal

pub returns-then-region-n : goal.returns-then-region-n
returns-then-region-n c = λ h. let z : false ≡ true = h in cc

pub slice_bounds-same-end : goal.slice_bounds-same-end
slice_bounds-same-end c =
    let a = c.args in
    sym (length-take-le a.n a.region.now c.if-region-n.false)

pub returns : goal.returns
returns c = c.same.ensures.0
