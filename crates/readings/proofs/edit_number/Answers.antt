-- `edit_number` meets its contract.
use mathlib.Core.Path.{sym, ap, ◌∙◌}
use Prim.Native.Nat.{ℕ}
use borrow.Author.Tests.{not-true, not-false}
use Rattle.plain.specs.Outcome.{Outcome.value}
use Rattle.note_counts.proofs.Rules.{not-formed, well-formed, own-edits}
use Rattle.readings.proofs.edit_number.Goals as goal

pub returns-then-not-check : goal.returns-then-not-check
returns-then-not-check c = not-formed c.args.m.now _ _ c.check.ensures (not-true _ c.if-not-check.true-raw)

pub returns : goal.returns
returns c =
    let m = c.args.m.now in
    ap (λ (n : ℕ). value n) (own-edits m _ (c.wide.ensures ∙ c.edit_number-edits.ensures)) ∙ sym (well-formed m _ _ c.check.ensures (not-false _ c.if-not-check.false-raw))
