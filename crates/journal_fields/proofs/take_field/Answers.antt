-- `take_field` meets its contract: no whole field, or the one at the front done by its tag and body.
use mathlib.Core.Path.{refl}
use native.Mathlib.Omega.{arith}
use Rattle.journal_fields.proofs.Fronts.{none-whole, one-whole, as-asked}
use Rattle.journal_fields.proofs.take_field.Goals as goal

pub returns-then-used-eq0 : goal.returns-then-used-eq0
returns-then-used-eq0 c =
    let f = c.field_bytes-used in
    (none-whole c.args.s.now f.result f.ensures.0 c.if-used-eq0.true f.ensures.1, refl)

pub bounds-s-0 : goal.bounds-s-0
bounds-s-0 c = let w = one-whole c.args.s.now c.field_bytes-used.result c.field_bytes-used.ensures.0 (λ z. c.if-used-eq0.false z) in omega (arith, w.2, w.3)

pub slice_bounds-apply-count : goal.slice_bounds-apply-count
slice_bounds-apply-count c = let w = one-whole c.args.s.now c.field_bytes-used.result c.field_bytes-used.ensures.0 (λ z. c.if-used-eq0.false z) in omega (arith, w.3)

pub returns : goal.returns
returns c =
    let a = c.args in
    let f = c.field_bytes-used in
    let w = one-whole a.s.now f.result f.ensures.0 c.if-used-eq0.false in
    let x = c.apply-done in
    (w.0, w.1, as-asked a.s.now f.result w.1 a.m.now x.new.m x.result x.result refl x.ensures)

pub slice_bounds-apply-end : goal.slice_bounds-apply-end
slice_bounds-apply-end c = let w = one-whole c.args.s.now c.field_bytes-used.result c.field_bytes-used.ensures.0 (λ z. c.if-used-eq0.false z) in omega (arith, w.2)

pub slice_bounds-apply-start : goal.slice_bounds-apply-start
slice_bounds-apply-start c = let w = one-whole c.args.s.now c.field_bytes-used.result c.field_bytes-used.ensures.0 (λ z. c.if-used-eq0.false z) in omega (arith, w.3)
