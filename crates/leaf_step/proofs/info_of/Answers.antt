-- `info_of` meets its contract.
use mathlib.Core.Path.{ap, ◌∙◌}
use Rattle.text_info.specs.Info.{raw_leaf_info}
use Rattle.leaf_step.proofs.Rules.{leaf-counted}
use Rattle.leaf_step.proofs.info_of.Goals as goal

pub returns : goal.returns
returns c =
    c.from_bytes.ensures ∙ ap raw_leaf_info c.text_at.ensures.0 ∙ leaf-counted c.args.m.now c.args.slot c.requires
