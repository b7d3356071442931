-- `to_left` meets its contract: neither call is refused.
use mathlib.Core.Path.{refl, ap, ◌∙◌}
use mathlib.Core.List.{[], ◌∷◌, ◌++◌}
use Rattle.plain.specs.Outcome.{mapped}
use Rattle.answer.proofs.Opened.{never-refused}
use Rattle.pool.specs.declared.Kid.{Kid}
use Rattle.node_children.specs.Kids.{kids, list_of}
use Rattle.node_children.proofs.Lists.{clean-length}
use Rattle.node_children.proofs.Rules.{removed-done, pushed-done}
use Rattle.node_children.proofs.Holding.{first_holds, first-kid, pushed-holds}
use Rattle.child_split.proofs.to_left.Goals as goal

pub returns-in-Err : goal.returns-in-Err
returns-in-Err c =
    never-refused _ c.remove-first.result.verdict tt (c.remove-first.ensures.answered ∙ ap (mapped (λ x. tt)) (removed-done c.args.right 0 c.requires.2 c.requires.2 c.requires.3)) c.in-Err.is

pub returns-in-Err-may : goal.returns-in-Err-may
returns-in-Err-may c =
    never-refused _ c.push-more.result.verdict tt (c.push-more.ensures.answered ∙ ap (mapped (λ x. tt)) (pushed-done c.args.left _ c.requires.4)) c.in-Err-may.is

pub returns-in-Ok-may : goal.returns-in-Ok-may
returns-in-Ok-may c =
    let a = c.args in
    let w = clean-length _ c.requires.1 in
    let i = pushed-holds a.left (clean-length _ c.requires.0) _ c.push-more.result c.requires.4 c.push-more.ensures in
    record {
      answered = refl;
      left-list = i.is ∙ ap (λ (k : Kid). list_of (kids a.left ++ (k ∷ []))) (first-kid a.right w c.requires.3 c.remove-first.result c.requires.2 c.remove-first.ensures);
      right-list = (first_holds a.right w c.requires.3 c.remove-first.result c.requires.2 c.remove-first.ensures).is;
    }
