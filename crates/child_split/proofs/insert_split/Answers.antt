-- `insert_split` meets its contract.
use mathlib.Core.List.{[]}
use native.Mathlib.Omega.{arith}
use lib.ListN.{length-map}
use Rattle.node_children.specs.Kids.{kids, list_of}
use Rattle.node_children.proofs.Lists.{kids-length}
use Rattle.node_children.proofs.Rules.{parting-same, insert-split-none, insert-split-past, insert-split-long, insert-split-done}
use Rattle.node_children.proofs.Halves.{insert-behind}
use Rattle.child_split.proofs.insert_split.Goals as goal

pub returns-then-n-eq0 : goal.returns-then-n-eq0
returns-then-n-eq0 c = let a = c.args in parting-same _ a.list (list_of []) _ _ (insert-split-none a.list a.idx a.item (omega arith)) c.not_parted.ensures

pub returns-then-n-idx : goal.returns-then-n-idx
returns-then-n-idx c = let a = c.args in parting-same _ a.list (list_of []) _ _ (insert-split-past a.list a.idx a.item (omega arith) (omega arith)) c.not_parted-then-n-idx.ensures

pub returns-then-n-gt-MAX_LEN : goal.returns-then-n-gt-MAX_LEN
returns-then-n-gt-MAX_LEN c = let a = c.args in parting-same _ a.list (list_of []) _ _ (insert-split-long a.list a.idx a.item (omega arith) (omega arith) (omega arith)) c.not_parted-then-n-gt-MAX_LEN.ensures

pub returns-then-idx-n : goal.returns-then-idx-n
returns-then-idx-n c =
    let a = c.args in
    parting-same _ a.list (list_of []) _ _ (insert-split-done a.list a.idx a.item (omega arith) (omega arith) (omega arith)) c.split_before.ensures

pub returns : goal.returns
returns c =
    let a = c.args in
    let w = kids-length a.list (omega arith) (c.well_formed.0.1.1.1.0.1.0.1) in
    parting-same _ a.list (list_of []) _ _ (insert-split-done a.list a.idx a.item (omega arith) (omega arith) (omega arith))
    (rw (insert-behind (kids a.list) a.idx a.item (omega arith)) at c.split_with.ensures)
