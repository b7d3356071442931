-- `converted_in` meets its contract.
use mathlib.Core.Path.{refl, ◌∙◌}
use native.Mathlib.Omega.{arith}
use Rattle.note_counts.proofs.Rules.{converted-past, converted-done}
use Rattle.note_counts.proofs.converted_in.Goals as goal

pub returns-then-most-idx : goal.returns-then-most-idx
returns-then-most-idx c = converted-past _ _ _ _ _ c.most.ensures (omega arith)

pub returns : goal.returns
returns c = c.turned.ensures ∙ converted-done _ _ _ _ _ c.most.ensures _ (omega (arith, c.if-most-idx.false)) refl
