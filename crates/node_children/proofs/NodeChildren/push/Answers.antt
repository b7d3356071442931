-- `push` meets its contract.
use mathlib.Core.Path.{◌∙◌, ap}
use mathlib.Core.List.{List, [], ◌∷◌, ◌++◌}
use native.Mathlib.Omega.{arith}
use Rattle.answer.specs.declared.Refusal.TheVariants.{Size}
use Rattle.pool.specs.declared.Kid.{Kid}
use Rattle.node_children.specs.Kids.{list_of}
use Rattle.node_children.proofs.Lists.{whole, append-holds}
use Rattle.node_children.proofs.Rules.{listing-refused, listing-done, pushed-full, pushed-done}
use Rattle.node_children.proofs.NodeChildren.push.Goals as goal

pub returns-then-n-ge-MAX_LEN : goal.returns-then-n-ge-MAX_LEN
returns-then-n-ge-MAX_LEN c = let a = c.args in listing-refused _ a.self Size (pushed-full a.self a.item (omega arith))

pub put-requires : goal.put-requires
put-requires c = (omega (arith, c.front.ensures.len), c.front.ensures.clean)

pub returns : goal.returns
returns c =
    let a = c.args in
    let p = append-holds _ c.front.result c.put.result _ _ (a.item ∷ []) c.front.ensures c.put.ensures in
    listing-done _ a.self _ c.put.result (pushed-done a.self a.item (omega arith)) (p.is ∙ ap (λ (t : List Kid). list_of (t ++ (a.item ∷ []))) (whole a.self))
