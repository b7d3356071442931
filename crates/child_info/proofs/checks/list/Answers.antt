-- `list` meets its contract.
use Rattle.std.specs.Prelude.{Ok}
use mathlib.Core.Path.{sym, ap, ◌∙◌}
use Rattle.nodes.proofs.Heads.{head-list, head-none, head-no-list}
use Rattle.child_info.proofs.checks.list.Goals as goal

pub returns-in_default : goal.returns-in_default
returns-in_default c = sym (head-none c.args.m.now c.args.slot _ c.head_of.ensures _ c.in_default.is).1

pub returns-in-List : goal.returns-in-List
returns-in-List c = sym (head-list c.args.m.now c.args.slot _ c.head_of.ensures _ (c.in-Ok.is ∙ ap Ok c.in-List.is)).0

pub returns-in_default-matches : goal.returns-in_default-matches
returns-in_default-matches c = sym (head-no-list c.args.m.now c.args.slot _ c.head_of.ensures _ c.in-Ok.is c.in_default-matches.not-List)
