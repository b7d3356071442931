-- `to_right` meets its contract: neither call is refused.
use mathlib.Core.Path.{refl, ap, ◌∙◌}
use native.Mathlib.Omega.{arith}
use Rattle.plain.specs.Outcome.{mapped}
use Rattle.answer.proofs.Opened.{never-refused}
use Rattle.pool.specs.declared.Kid.{Kid}
use Rattle.node_children.specs.Kids.{kids, list_of}
use Rattle.node_children.specs.Calls.{with_kid}
use Rattle.node_children.proofs.Lists.{clean-length}
use Rattle.node_children.proofs.Rules.{popped-done, inserted-done}
use Rattle.node_children.proofs.Holding.{popped-holds, popped-kid, inserted-holds}
use Rattle.child_split.proofs.to_right.Goals as goal

pub returns-in-Err : goal.returns-in-Err
returns-in-Err c =
    never-refused _ c.pop-last.result.verdict tt (c.pop-last.ensures.answered ∙ ap (mapped (λ x. tt)) (popped-done c.args.left c.requires.2 c.requires.3)) c.in-Err.is

pub returns-in-Err-may : goal.returns-in-Err-may
returns-in-Err-may c =
    never-refused _ c.insert-more.result.verdict tt (c.insert-more.ensures.answered ∙ ap (mapped (λ x. tt)) (inserted-done c.args.right 0 _ (omega arith) c.requires.4)) c.in-Err-may.is

pub returns-in-Ok-may : goal.returns-in-Ok-may
returns-in-Ok-may c =
    let a = c.args in
    let w = clean-length _ c.requires.0 in
    let i = inserted-holds a.right (clean-length _ c.requires.1) 0 _ c.insert-more.result (omega arith) c.requires.4 c.insert-more.ensures in
    record {
      answered = refl;
      left-list = (popped-holds a.left w c.requires.3 c.pop-last.result c.requires.2 c.pop-last.ensures).is;
      right-list = i.is ∙ ap (λ (k : Kid). list_of (with_kid 0 k (kids a.right))) (popped-kid a.left w c.requires.3 c.pop-last.result c.requires.2 c.pop-last.ensures);
    }
