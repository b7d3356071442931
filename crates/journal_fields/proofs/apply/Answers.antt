use Rattle.journal_fields.proofs.Laws.{applied-bad}
use Rattle.journal_fields.specs.Applied.{Applied}
use Rattle.plain_journal.proofs.Asked.{bad-tag}
use Rattle.plain_journal.specs.Fields.{asked}
use Prim.Native.Nat.{ℕ}
use mathlib.Core.Path.{subst⁻¹}
use Rattle.journal_fields.proofs.apply.Goals as goal

pub returns-then-tag-eq1 : goal.returns-then-tag-eq1
returns-then-tag-eq1 c =
    let a = c.args in
    let f = c.insert_field in
    subst⁻¹ (λ (t : ℕ). Applied (asked t a.body.now) a.m.now f.result f.new.m) c.if-tag-eq1.true f.ensures

pub returns-then-tag-eq2 : goal.returns-then-tag-eq2
returns-then-tag-eq2 c =
    let a = c.args in
    let f = c.remove_field in
    subst⁻¹ (λ (t : ℕ). Applied (asked t a.body.now) a.m.now f.result f.new.m) c.if-tag-eq2.true f.ensures

pub returns-then-tag-eq3 : goal.returns-then-tag-eq3
returns-then-tag-eq3 c =
    let a = c.args in
    let f = c.mark_field in
    subst⁻¹ (λ (t : ℕ). Applied (asked t a.body.now) a.m.now f.result f.new.m) c.if-tag-eq3.true f.ensures

pub returns : goal.returns
returns c =
    let a = c.args in
    applied-bad _ _ (bad-tag a.body.now a.tag c.if-tag-eq1.false c.if-tag-eq2.false c.if-tag-eq3.false)
