-- `own_part` meets its contract: a memory that is shorter than the need is its own part whole.
use mathlib.Core.Path.{refl, sym}
use native.Mathlib.Omega.{arith}
use lib.ListN.{length-take}
use lib.Seq.{length-take-le}
use Rattle.note_head.proofs.Own.{own-all, own-front}
use Rattle.note_head.proofs.own_part.Goals as goal

pub returns-then-m-end : goal.returns-then-m-end
returns-then-m-end c = (own-all c.args.m.now _ c.need-end.ensures c.if-m-end.true, record { from = 0; block = refl; offset = omega arith; inside = omega arith })

pub slice_bounds-result-end : goal.slice_bounds-result-end
slice_bounds-result-end c = sym (length-take-le _ c.args.m.now (omega arith))

pub returns : goal.returns
returns c =
    let m = c.args.m.now in
    (own-front m _ c.need-end.ensures, record { from = 0; block = refl; offset = omega arith; inside = simp length-take (omega arith) })
