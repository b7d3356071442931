-- `copy_out` meets its contract: rule by rule.
use mathlib.Core.Path.{sym, ◌∙◌}
use native.Mathlib.Omega.{arith}
use borrow.Author.Tests.{not-true, not-false}
use Rattle.copy_out.proofs.Copied.{out-2, out-above, chars-are, out-past, out-copied}
use Rattle.copy_out.proofs.copy_out.Goals as goal

pub returns-then-not-check : goal.returns-then-not-check
returns-then-not-check c = let a = c.args in out-2 a.m.now a.s a.e a.out.now (sym c.check.ensures ∙ not-true _ c.if-not-check.true-raw)

pub returns-then-e-s : goal.returns-then-e-s
returns-then-e-s c = let a = c.args in out-above a.m.now a.s a.e a.out.now (sym c.check.ensures ∙ not-false _ c.if-not-check.false-raw) c.if-e-s.true

pub returns-then-chars_of-e : goal.returns-then-chars_of-e
returns-then-chars_of-e c = let a = c.args in out-past a.m.now a.s a.e a.out.now (sym c.check.ensures ∙ not-false _ c.if-not-check.false-raw) _ c.chars_of.ensures.0 c.if-chars_of-e.true

pub copy_chars-requires : goal.copy_chars-requires
copy_chars-requires c =
    let a = c.args in
    let ok = sym c.check.ensures ∙ not-false _ c.if-not-check.false-raw in
    (ok, c.if-e-s.false, omega (arith, c.if-chars_of-e.false, chars-are a.m.now a.s a.e a.out.now ok _ c.chars_of.ensures.0))

pub returns : goal.returns
returns c =
    let a = c.args in
    out-copied a.m.now a.s a.e a.out.now (sym c.check.ensures ∙ not-false _ c.if-not-check.false-raw) _ c.chars_of.ensures.0 c.if-e-s.false c.if-chars_of-e.false _ _ c.copy_chars.ensures
