-- `pair_of` meets its contract.
use mathlib.Core.Path.{sym}
use native.Mathlib.Omega.{arith}
use lib.ListN.{length-map}
use lib.Seq.{get_or-take}
use Rattle.pool.specs.Slot.{no_kid}
use Rattle.node_children.specs.Kids.{kids}
use Rattle.node_children.proofs.Lists.{kids-length}
use Rattle.child_info.proofs.Rules.{pair_made}
use Rattle.child_info.proofs.pair_of.Goals as goal

pub returns : goal.returns
returns c =
    let a = c.args in
    let t = a.list in
    let w = kids-length t (omega arith) (c.well_formed.0.1.1.1.0.1.0.1) in
    pair_made c.two.result (kids t) _ _ a.idx1 a.idx2 c.two.ensures (sym (get_or-take t.len t.arr a.idx1 no_kid (omega arith)))
    (sym (get_or-take t.len t.arr a.idx2 no_kid (omega arith))) (omega arith) (omega arith)
