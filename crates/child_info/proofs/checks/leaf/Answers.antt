-- `leaf` meets its contract.
use Rattle.std.specs.Prelude.{Ok}
use mathlib.Core.Path.{sym, ap, ◌∙◌}
use Rattle.nodes.proofs.Heads.{head-leaf, head-none, head-no-leaf}
use Rattle.child_info.proofs.checks.leaf.Goals as goal

pub returns-in_default : goal.returns-in_default
returns-in_default c = sym (head-none c.args.m.now c.args.slot _ c.head_of.ensures _ c.in_default.is).0

pub returns-in-Leaf : goal.returns-in-Leaf
returns-in-Leaf c = sym (head-leaf c.args.m.now c.args.slot _ c.head_of.ensures _ (c.in-Ok.is ∙ ap Ok c.in-Leaf.is)).0

pub returns-in_default-matches : goal.returns-in_default-matches
returns-in_default-matches c = sym (head-no-leaf c.args.m.now c.args.slot _ c.head_of.ensures _ c.in-Ok.is c.in_default-matches.not-Leaf)
