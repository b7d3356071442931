use Rattle.answer.specs.Answers.{outcome}
use Rattle.journal_fields.proofs.Laws.{applied-bad, applied-call}
use Rattle.plain_journal.proofs.Asked.{asks-insert, bad-insert}
use Rattle.plain_journal.specs.Fields.{asked}
use Rattle.plain_calls.specs.Calls.{Call.insert, Said.by}
use Rattle.plain.specs.Outcome.{Outcome.value}
use lib.Seq.{take_all}
use lib.ListN.{length, drop, length-drop}
use native.Mathlib.Omega.{arith}
use Prim.Native.Nat.{ℕ, ◌-◌}
use mathlib.Core.List.{List}
use mathlib.Core.Path.{refl, sym, ap, ◌∙◌}
use Rattle.journal_fields.proofs.insert_field.Goals as goal

pub returns-then-body-lt4 : goal.returns-then-body-lt4
returns-then-body-lt4 c = applied-bad _ _ (bad-insert c.args.body.now c.if-body-lt4.true)

pub returns : goal.returns
returns c =
    let a = c.args in
    let b = a.body.now in
    let i = c.insert-answer in
    let p = c.number_at-place in
    applied-call (asked 1 b) a.m.now by _ (outcome i.result) c.code_of.result i.new.m
    (asks-insert b (omega arith) ∙ ap (λ (x : ℕ). value (insert x (drop 4 b))) (sym p.ensures.0) ∙ ap (λ (l : List ℕ). value (insert p.result l)) (sym (take_all (length b - 4) (drop 4 b) (omega (arith, length-drop 4 b)))))
    c.code_of.ensures (outcome i.result, refl, i.ensures)
