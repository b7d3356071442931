-- `split_with` meets its contract: neither call is refused.
use mathlib.Core.Path.{refl, ap, ◌∙◌}
use mathlib.Core.List.{[], ◌∷◌}
use native.Mathlib.Omega.{arith}
use lib.ListN.{length-map}
use Rattle.plain.specs.Outcome.{mapped}
use Rattle.answer.proofs.Opened.{never-refused}
use Rattle.node_children.proofs.Lists.{kids-length, clean-length, append-holds}
use Rattle.node_children.proofs.Rules.{split_done, pushed-done}
use Rattle.node_children.proofs.Halves.{halves-put}
use Rattle.node_children.proofs.Holding.{left-holds, right-holds, pushed-holds}
use Rattle.child_split.proofs.split_with.Goals as goal

pub returns-in_default : goal.returns-in_default
returns-in_default c =
    let a = c.args in
    never-refused _ c.split_off-two.result.verdict tt (c.split_off-two.ensures.answered ∙ ap (mapped (λ x. tt)) (split_done a.list _ (omega arith) (omega arith))) c.in_default.is

pub returns-in-Err : goal.returns-in-Err
returns-in-Err c =
    let a = c.args in
    let two = c.split_off-two in
    let w = kids-length a.list (omega arith) (c.well_formed.0.1.1.1.0.1.0.1) in
    let r = right-holds a.list w (omega arith) _ two.result (omega arith) two.ensures in
    never-refused _ c.push-more.result.verdict tt (c.push-more.ensures.answered ∙ ap (mapped (λ x. tt)) (pushed-done two.result.right a.item (omega (arith, r.len)))) c.in-Err.is

pub returns-in-Ok-may : goal.returns-in-Ok-may
returns-in-Ok-may c =
    let a = c.args in
    let two = c.split_off-two in
    let n = c.push-more in
    let w = kids-length a.list (omega arith) (c.well_formed.0.1.1.1.0.1.0.1) in
    let l = left-holds a.list w (omega arith) _ two.result (omega arith) two.ensures in
    let r = right-holds a.list w (omega arith) _ two.result (omega arith) two.ensures in
    let p = pushed-holds two.result.right (clean-length _ r.clean) a.item n.result (omega (arith, r.len)) n.ensures in
    let q = append-holds _ two.result.right n.result.list _ _ (a.item ∷ []) r p in
    let h = halves-put a.list two.result.left n.result.list a.item (omega arith) w l.is q.is in
    record { answered = refl; left-list = h.0; right-list = h.1 }
