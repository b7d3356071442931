-- `any_past` meets its contract.
use mathlib.Core.Path.{◌∙◌}
use Rattle.std.proofs.Common.{rules}
use Rattle.std.proofs.lemmas.Iterator.{YieldsList-from_slice}
use Rattle.std.proofs.lemmas.Iterator.Search.{any_from_yields_List}
use borrow.Author.Tests.{tests}
use Rattle.plain.specs.Outcome.{past}
use Rattle.note_counts.proofs.Several.{any-listed}
use Rattle.note_counts.proofs.any_past.Goals as goal

pub returns : goal.returns
returns c =
    let a = c.args in
    any_from_yields_List (λ i. past i a.highest) _ _ _ c.any.ensures.ran (YieldsList-from_slice a.indices.now c.iter.ensures.rest) (λ x b q k. search (rules, tests)) ∙ any-listed a.highest a.indices.now
