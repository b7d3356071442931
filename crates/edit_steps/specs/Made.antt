-- What an edit made of a node, on paper; and a step that answers it and leaves a memory.
use Rattle.std.specs.Prelude.{◌≡◌, cond, List, ℕ, ltb, Ok, Err}
use Rattle.plain.specs.Outcome.{Outcome, Outcome.value, Outcome.refused, kept, mapped}
use Rattle.answer.specs.Answers.{refusal_number, Answer}
use Rattle.text_info.specs.declared.TextInfo.{TextInfo}
use Rattle.edit_steps.specs.declared.Edit.{Edit}
use Rattle.edit_steps.specs.declared.Edit.TheVariants as Edit·case

pub data Made : Type 0 where
  same : TextInfo → Made
  split : TextInfo → ℕ → TextInfo → Made
  small : TextInfo → Made
  apart : Made

abbrev pub edit : Answer Edit → Outcome Made
edit (Ok (Edit·case.Same i)) = value (same i)
edit (Ok (Edit·case.Split i s j)) = value (split i s j)
edit (Ok (Edit·case.Small i)) = value (small i)
edit (Ok Edit·case.Apart) = value apart
edit (Err r) = refused (refusal_number r)

-- a node of n bytes or children, which should have `least`
abbrev pub sized : ℕ → ℕ → TextInfo → Made
sized least n i = cond (ltb n least) (small i) (same i)

-- A step of an edit: its answer, and every byte afterwards. A refused one changes none.
pub record Stepped (o : Outcome (Made × List ℕ)) (before : List ℕ) (r : Answer Edit) (after : List ℕ) : Type 0 where
  pub answered : edit r ≡ mapped (λ t. t.0) o
  pub memory : after ≡ kept before (mapped (λ t. t.1) o)
