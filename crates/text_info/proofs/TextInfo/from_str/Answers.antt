-- `TextInfo::from_str` meets its contract: text, and its bytes counted.
use Rattle.std.proofs.Common.{sym, ◌∙◌}
use borrow.Author.Tests.{not-true, not-false}
use Rattle.text_info.proofs.Counts.{info-bad, info-text}
use Rattle.text_info.proofs.TextInfo.from_str.Goals as goal

pub returns-then-not-valid : goal.returns-then-not-valid
returns-then-not-valid c = info-bad c.args.text.now (sym c.valid.ensures ∙ not-true _ c.if-not-valid.true-raw)

pub returns : goal.returns
returns c = c.from_bytes.ensures ∙ info-text c.args.text.now (sym c.valid.ensures ∙ not-false _ c.if-not-valid.false-raw)
