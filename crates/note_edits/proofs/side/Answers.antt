-- `side` meets its contract.
use mathlib.Core.Path.{sym, ◌∙◌}
use mathlib.Core.Bool.{true, false}
use Rattle.edit_promise.specs.Turned.{text_in}
use Rattle.note_edits.proofs.Steps.{side-is}
use Rattle.note_edits.proofs.side.Goals as goal

pub returns-then-behind_cr : goal.returns-then-behind_cr
returns-then-behind_cr c = let a = c.args in side-is (text_in a.m.now) a.p true (sym c.if-behind_cr.true ∙ c.behind_cr.ensures)

pub returns-else-behind_cr : goal.returns-else-behind_cr
returns-else-behind_cr c = let a = c.args in side-is (text_in a.m.now) a.p false (sym c.if-behind_cr.false ∙ c.behind_cr.ensures)
