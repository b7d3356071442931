use Rattle.answer.specs.Answers.{outcome}
use Rattle.journal_fields.proofs.Laws.{applied-bad, applied-call}
use Rattle.plain_journal.proofs.Asked.{asks-mark, bad-mark}
use Rattle.plain_journal.specs.Fields.{asked}
use Rattle.plain_calls.specs.Calls.{Call.set_mark, Said.is}
use Rattle.plain.specs.Outcome.{Outcome.value}
use Prim.Native.Nat.{ℕ}
use mathlib.Core.Path.{refl, sym, ap, ◌∙◌}
use Rattle.journal_fields.proofs.mark_field.Goals as goal

pub returns-then-body-ne4 : goal.returns-then-body-ne4
returns-then-body-ne4 c = applied-bad _ _ (bad-mark c.args.body.now c.if-body-ne4.true)

pub returns : goal.returns
returns c =
    let a = c.args in
    let b = a.body.now in
    let r = c.set_mark-answer in
    let p = c.number_at-place in
    applied-call (asked 3 b) a.m.now is _ (outcome r.result) c.code_of.result r.new.m
    (asks-mark b c.if-body-ne4.false ∙ ap (λ (x : ℕ). value (set_mark x)) (sym p.ensures.0))
    c.code_of.ensures (outcome r.result, refl, r.ensures)
