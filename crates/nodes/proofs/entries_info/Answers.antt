-- `entries_info` meets its contract: a list that is there is read, and then counted.
use mathlib.Core.Path.{ap, ◌∙◌}
use Rattle.answer.proofs.Opened.{never-refused}
use Rattle.nodes.specs.Calls.{list_counted}
use Rattle.nodes.proofs.entries_info.Goals as goal

pub returns-in_err-may : goal.returns-in_err-may
returns-in_err-may c = let r = c.read_list-had in never-refused _ r.result.verdict tt r.ensures.answered c.in_err-may.was

pub returns : goal.returns
returns c = c.list_info.ensures ∙ ap list_counted c.read_list-had.ensures.list
