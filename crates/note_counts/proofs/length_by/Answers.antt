-- `length_by` meets its contract: what is lent is the note's own memory.
use mathlib.Core.Path.{sym, ap, ◌∙◌}
use mathlib.Core.List.{List}
use Prim.Native.Nat.{ℕ}
use borrow.Author.Tests.{not-true, not-false}
use Rattle.plain.specs.Outcome.{Outcome.value}
use Rattle.plain_note.specs.Note.{most_by}
use Rattle.memory.specs.Formed.{note_in}
use Rattle.note_counts.specs.Counts.{measure}
use Rattle.note_counts.proofs.Rules.{not-formed, well-formed, lent-right}
use Rattle.note_counts.proofs.length_by.Goals as goal

pub returns-then-not-check : goal.returns-then-not-check
returns-then-not-check c = not-formed c.args.m.now _ _ c.check.ensures (not-true _ c.if-not-check.true-raw)

pub most-requires : goal.most-requires
most-requires c = lent-right c.args.m.now _ c.check.ensures (not-false _ c.if-not-check.false-raw) _ c.own_part.ensures.0

pub returns : goal.returns
returns c =
    let a = c.args in
    let yes = not-false _ c.if-not-check.false-raw in
    ap (λ (n : ℕ). value n) c.most.ensures
    ∙ ap (λ (l : List ℕ). value (most_by (measure a.by) (note_in l).text)) c.own_part.ensures.0
    ∙ sym (well-formed a.m.now _ _ c.check.ensures yes)
