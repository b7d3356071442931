-- `convert_all` meets its contract: what is lent is the note's own memory.
use mathlib.Core.Path.{refl, sym, ap, subst, ◌∙◌}
use mathlib.Core.List.{List}
use Prim.Native.Nat.{ℕ}
use borrow.Author.Tests.{not-true, not-false}
use Rattle.plain.specs.Outcome.{Outcome}
use Rattle.pool.specs.Calls.{Wrote}
use Rattle.pool.proofs.Rules.{wrote-refused}
use Rattle.memory.specs.Formed.{note_in}
use Rattle.note_counts.specs.Counts.{converted_all}
use Rattle.note_counts.proofs.Rules.{not-formed, well-formed, lent-right}
use Rattle.note_counts.proofs.convert_all.Goals as goal

pub returns-then-not-check : goal.returns-then-not-check
returns-then-not-check c = wrote-refused _ _ _ 2 (sym (not-formed c.args.m.now _ _ c.check.ensures (not-true _ c.if-not-check.true-raw))) refl

pub converted_all_in-requires : goal.converted_all_in-requires
converted_all_in-requires c = lent-right c.args.m.now _ c.check.ensures (not-false _ c.if-not-check.false-raw) _ c.own_part.ensures.0

pub returns : goal.returns
returns c =
    let a = c.args in
    let done = c.converted_all_in in
    let f = converted_all a.from a.to a.indices.now in
    subst (λ (o : Outcome (List ℕ)). Wrote o a.indices.now done.result done.new.indices)
    (ap (λ (l : List ℕ). f (note_in l)) c.own_part.ensures.0 ∙ sym (well-formed a.m.now f _ c.check.ensures (not-false _ c.if-not-check.false-raw)))
    done.ensures
