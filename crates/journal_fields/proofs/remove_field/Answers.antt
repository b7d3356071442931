use Rattle.answer.specs.Answers.{outcome}
use Rattle.journal_fields.proofs.Laws.{applied-bad, applied-call}
use Rattle.plain_journal.proofs.Asked.{asks-remove, bad-remove}
use Rattle.plain_journal.specs.Fields.{asked}
use Rattle.octets.specs.Big.{four_at}
use Rattle.plain_calls.specs.Calls.{Call.remove, Said.by}
use Rattle.plain.specs.Outcome.{Outcome.value}
use Prim.Native.Nat.{ℕ}
use mathlib.Core.Path.{refl, sym, ap, ◌∙◌}
use Rattle.journal_fields.proofs.remove_field.Goals as goal

pub returns-then-body-ne8 : goal.returns-then-body-ne8
returns-then-body-ne8 c = applied-bad _ _ (bad-remove c.args.body.now c.if-body-ne8.true)

pub returns : goal.returns
returns c =
    let a = c.args in
    let b = a.body.now in
    let r = c.remove-answer in
    let s = c.number_at-start in
    let e = c.number_at-end in
    applied-call (asked 2 b) a.m.now by _ (outcome r.result) c.code_of.result r.new.m
    (asks-remove b c.if-body-ne8.false ∙ ap (λ (x : ℕ). value (remove x (four_at b 4))) (sym s.ensures.0) ∙ ap (λ (x : ℕ). value (remove s.result x)) (sym e.ensures.0))
    c.code_of.ensures (outcome r.result, refl, r.ensures)
