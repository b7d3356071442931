-- `read_in` meets its contract: loaded, and read.
use Rattle.answer.proofs.Opened.{raised}
use Rattle.answer.specs.Answers.{outcome}
use mathlib.Core.Path.{sym, ap, ◌∙◌}
use Rattle.list_calls.proofs.Opened.{refused-so, listed, then-refused, then-value}
use Rattle.list_calls.proofs.reads.read_in.Goals as goal

pub returns-in_err-v : goal.returns-in_err-v
returns-in_err-v c = rw (raised c.from_residual.ensures.1) (sym (then-refused _ _ _ (refused-so _ _ _ c.load-had.ensures.answered c.in_err-v.was)))

pub returns : goal.returns
returns c = c.read_by.ensures ∙ sym (then-value _ _ _ (listed _ _ _ c.load-had.ensures (ap outcome c.in_ok-v.was)))
