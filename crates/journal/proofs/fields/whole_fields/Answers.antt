use mathlib.Core.Path.{◌≡◌, refl, sym, subst, ◌∙◌}
use mathlib.Core.Bool.{true, false, false≢true}
use mathlib.Core.List.{List}
use mathlib.Core.Logic.{inl, inr}
use Prim.Native.Nat.{ℕ, ◌+◌, ◌-◌}
use native.Mathlib.Omega.{arith}
use borrow.Author.Rules.{rules}
use lib.ListN.{length, take}
use Rattle.plain_journal.specs.Fields.{fields_of}
use Rattle.journal.proofs.Listed.{Taking, taking-start, taking-one, fed, as-listed, as-bad, as_short}
use Rattle.journal.proofs.Played.{played-left}
use Rattle.journal.proofs.fields.whole_fields.Goals as goal

pub loop-out-init : goal.loop-out-init
loop-out-init c = (search rules, search rules, search rules, search rules, refl, c.requires.0, refl, taking-start c.args.m.now c.args.buf.now c.args.out.now c.args.k)

pub returns-in-Short : goal.returns-in-Short
returns-in-Short c =
    let L = c.loop-out in
    let a = c.args in
    let f = c.one_field-did in
    let d = as_short L.m f.new.m a.buf.now L.out f.new.out L.at L.put L.j f.result L.invariant.0 f.ensures c.in-Short.is in
    fed a.m.now f.new.m a.buf.now a.out.now f.new.out a.k L.at L.put L.j false c.requires.0 L.invariant.0 L.invariant.3 (omega (arith, L.invariant.4))
    (subst (λ (l : List ℕ). Taking a.m.now f.new.m a.buf.now l a.k L.at L.put L.j false) (sym d.2) (subst (λ (l : List ℕ). Taking a.m.now l a.buf.now L.out a.k L.at L.put L.j false) (sym d.1) L.invariant.7))
    (λ e. inl d.0)

pub overflow_add-result : goal.overflow_add-result
overflow_add-result c =
    let L = c.loop-out in
    let a = c.args in
    let f = c.one_field-did in
    let d = as-bad L.m f.new.m a.buf.now L.out f.new.out L.at L.put L.j f.result L.invariant.0 f.ensures c.in-Bad.used c.in-Bad.p c.in-Bad.is in
    omega (arith, d.1.0)

pub overflow_add-result-in-Bad : goal.overflow_add-result-in-Bad
overflow_add-result-in-Bad c =
    let L = c.loop-out in
    let a = c.args in
    let f = c.one_field-did in
    let d = as-bad L.m f.new.m a.buf.now L.out f.new.out L.at L.put L.j f.result L.invariant.0 f.ensures c.in-Bad.used c.in-Bad.p c.in-Bad.is in
    omega (arith, d.1.0, d.1.1)

pub returns-in-Bad : goal.returns-in-Bad
returns-in-Bad c =
    let L = c.loop-out in
    let a = c.args in
    let f = c.one_field-did in
    let d = as-bad L.m f.new.m a.buf.now L.out f.new.out L.at L.put L.j f.result L.invariant.0 f.ensures c.in-Bad.used c.in-Bad.p c.in-Bad.is in
    let line = d.0.3.0 (omega arith) in
    fed a.m.now f.new.m a.buf.now a.out.now f.new.out a.k (L.at + c.in-Bad.used) c.in-Bad.p (L.j + 1) true c.requires.0 d.1.0 (omega (arith, line.0, d.1.1)) (omega (arith, line.0, L.invariant.4))
    (taking-one a.m.now L.m f.new.m a.buf.now L.out f.new.out a.k L.at L.put L.j c.in-Bad.used c.in-Bad.p _ c.requires.0 L.invariant.7 d.0.0 d.0.1 d.0.2 line.1.1)
    (λ e. absurd (false≢true (sym e)))

pub overflow_add-at : goal.overflow_add-at
overflow_add-at c =
    let L = c.loop-out in
    let a = c.args in
    let f = c.one_field-did in
    let d = as-listed L.m f.new.m a.buf.now L.out f.new.out L.at L.put L.j f.result L.invariant.0 f.ensures c.in-Listed.used c.in-Listed.p c.in-Listed.is in
    omega (arith, d.1.0)

pub overflow_add-j : goal.overflow_add-j
overflow_add-j c =
    let L = c.loop-out in
    let a = c.args in
    let f = c.one_field-did in
    let d = as-listed L.m f.new.m a.buf.now L.out f.new.out L.at L.put L.j f.result L.invariant.0 f.ensures c.in-Listed.used c.in-Listed.p c.in-Listed.is in
    omega (arith, d.1.0, d.1.1)

pub loop-out-smaller : goal.loop-out-smaller
loop-out-smaller c =
    let L = c.loop-out in
    let a = c.args in
    let f = c.one_field-did in
    let d = as-listed L.m f.new.m a.buf.now L.out f.new.out L.at L.put L.j f.result L.invariant.0 f.ensures c.in-Listed.used c.in-Listed.p c.in-Listed.is in
    omega (arith, d.1.0, d.1.1)

pub loop-out-preserved : goal.loop-out-preserved
loop-out-preserved c =
    let L = c.loop-out in
    let a = c.args in
    let f = c.one_field-did in
    let d = as-listed L.m f.new.m a.buf.now L.out f.new.out L.at L.put L.j f.result L.invariant.0 f.ensures c.in-Listed.used c.in-Listed.p c.in-Listed.is in
    let ol : length f.new.out ≡ length L.out = f.auto.out in
    let one = d.0.1 in
    let line = one.3.0 (omega arith) in
    let ok = c.requires.0 in
    let next : Taking a.m.now f.new.m a.buf.now f.new.out a.k (L.at + c.in-Listed.used) c.in-Listed.p (L.j + 1) false =
    taking-one a.m.now L.m f.new.m a.buf.now L.out f.new.out a.k L.at L.put L.j c.in-Listed.used c.in-Listed.p _ ok L.invariant.7 one.0 one.1 one.2 line.1.1 in
    (d.1.0, omega (arith, line.0), omega (arith, d.1.1), omega (arith, line.0, d.1.1), ol ∙ L.invariant.4, (played-left (fields_of (take (L.at + c.in-Listed.used) a.buf.now)) a.m.now f.new.m ok next.played).formed, f.auto.m ∙ L.invariant.6, next)

pub returns : goal.returns
returns c =
    let L = c.loop-out in
    let a = c.args in
    fed a.m.now L.m a.buf.now a.out.now L.out a.k L.at L.put L.j false c.requires.0 L.invariant.0 L.invariant.3 (omega (arith, L.invariant.4)) L.invariant.7 (λ e. inr (omega (arith, L.invariant.4)))
