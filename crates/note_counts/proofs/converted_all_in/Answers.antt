-- `converted_all_in` meets its contract.
use mathlib.Core.Path.{refl, sym, ap, ◌∙◌}
use Prim.Native.Nat.{ℕ}
use Rattle.pool.proofs.Rules.{wrote-refused, wrote-done}
use Rattle.note_counts.specs.Counts.{any_past}
use Rattle.note_counts.proofs.Several.{all_past, all_done}
use Rattle.note_counts.proofs.converted_all_in.Goals as goal

pub returns-then-any_past : goal.returns-then-any_past
returns-then-any_past c =
    let a = c.args in
    let e = ap (λ (n : ℕ). any_past n a.indices.now) (sym c.most.ensures) ∙ sym c.any_past.ensures in
    wrote-refused _ _ _ 3 (all_past a.from a.to _ a.indices.now (e ∙ c.if-any_past.true)) refl

pub turn_all-requires : goal.turn_all-requires
turn_all-requires c =
    let a = c.args in
    let e = ap (λ (n : ℕ). any_past n a.indices.now) (sym c.most.ensures) ∙ sym c.any_past.ensures in
    (c.requires, e ∙ c.if-any_past.false)

pub returns : goal.returns
returns c =
    let a = c.args in
    let e = ap (λ (n : ℕ). any_past n a.indices.now) (sym c.most.ensures) ∙ sym c.any_past.ensures in
    wrote-done _ _ _ _ _ (all_done a.from a.to _ a.indices.now (e ∙ c.if-any_past.false)) c.turn_all.ensures.0 c.turn_all.ensures.1
