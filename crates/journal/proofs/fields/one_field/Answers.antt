-- `one_field` meets its contract: the field at the front is done, and its line put.
use mathlib.Core.Path.{refl}
use Rattle.journal_fields.proofs.Fronts.{took-none, took_it}
use Rattle.journal.proofs.fields.one_field.Goals as goal

pub returns-in_default : goal.returns-in_default
returns-in_default c =
    let a = c.args in
    let x = c.take_field in
    let z = took-none a.m.now x.new.m a.s.now x.result x.ensures c.in_default.is in
    (z.0, z.1, refl)

pub returns-in_default-done : goal.returns-in_default-done
returns-in_default-done c =
    let a = c.args in
    let x = c.take_field in
    let w = took_it a.m.now x.new.m a.s.now x.result x.ensures c.in-Whole.used c.in-Whole.done _ c.in-Whole.is c.in_default-done.is in
    (w.0, w.1, w.2, c.put_field-p.ensures)

pub returns : goal.returns
returns c =
    let a = c.args in
    let x = c.take_field in
    let w = took_it a.m.now x.new.m a.s.now x.result x.ensures c.in-Whole.used c.in-Whole.done _ c.in-Whole.is c.in-Code.is in
    (c.in-Code.n, (w.0, w.1, w.2, c.put_field-p-2.ensures))
