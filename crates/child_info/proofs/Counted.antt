-- An answer of `text_info` read by a test of the node's counts.
use Rattle.std.specs.Prelude.{Ok, Err}
use mathlib.Core.Path.{◌≡◌, sym, ap, ◌∙◌}
use mathlib.Core.Bool.{Bool, true, false, not}
use Prim.Native.Nat.{ℕ}
use lib.Dec.{eqb}
use Rattle.plain.specs.Outcome.{Outcome}
use Rattle.answer.specs.Answers.{refusal_number, Answer, outcome}
use Rattle.answer.specs.declared.Refusal.{Refusal}
use Rattle.text_info.specs.declared.TextInfo.{TextInfo}
use Rattle.child_info.specs.Kin.{same_info, refused_by, differs}

module _ (r : Answer TextInfo) (o : Outcome TextInfo) (promise : outcome r ≡ o) where
  pub by_number : (q : Refusal) (k n : ℕ) → r ≡ Err q → k ≡ refusal_number q → eqb k n ≡ refused_by n o
  by_number q k n e f = ap (λ (j : ℕ). eqb j n) f ∙ ap (refused_by n) (sym (ap outcome e) ∙ promise)

  pub by-none : (t : TextInfo) (n : ℕ) → r ≡ Ok t → false ≡ refused_by n o
  by-none t n e = ap (refused_by n) (sym (ap outcome e) ∙ promise)

  pub stale-refused : (i : TextInfo) (q : Refusal) → r ≡ Err q → true ≡ differs i o
  stale-refused i q e = ap (differs i) (sym (ap outcome e) ∙ promise)

  pub stale-by : (i t : TextInfo) (b : Bool) → r ≡ Ok t → b ≡ same_info i t → not b ≡ differs i o
  stale-by i t b e f = ap not f ∙ ap (differs i) (sym (ap outcome e) ∙ promise)
