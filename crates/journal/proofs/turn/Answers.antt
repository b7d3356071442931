use mathlib.Core.Path.{refl, sym, ◌∙◌}
use mathlib.Core.Bool.{false≢true}
use native.Mathlib.Omega.{arith}
use borrow.Author.Tests.{not-true, not-false}
use Rattle.journal.proofs.Turns.{bad-memory, bad-fill, bad-count, bad-output, turn-taken}
use Rattle.journal.proofs.turn.Goals as goal

pub returns-then-not-check : goal.returns-then-not-check
returns-then-not-check c =
    let a = c.args in
    record { answered = bad-memory a.m.now a.buf.now a.out.now a.st (sym c.check.ensures ∙ not-true _ c.if-not-check.true-raw); taken = (refl, refl, refl) }

pub returns-then-buf-fill : goal.returns-then-buf-fill
returns-then-buf-fill c =
    let a = c.args in
    record { answered = bad-fill a.m.now a.buf.now a.out.now a.st (sym c.check.ensures ∙ not-false _ c.if-not-check.false-raw) c.if-buf-fill.true; taken = (refl, refl, refl) }

pub returns-then-fill-st : goal.returns-then-fill-st
returns-then-fill-st c =
    let a = c.args in
    record { answered = bad-count a.m.now a.buf.now a.out.now a.st (sym c.check.ensures ∙ not-false _ c.if-not-check.false-raw) (omega arith) (omega arith); taken = (refl, refl, refl) }

pub returns-then-out-lt-ROOM : goal.returns-then-out-lt-ROOM
returns-then-out-lt-ROOM c =
    let a = c.args in
    record { answered = bad-output a.m.now a.buf.now a.out.now a.st (sym c.check.ensures ∙ not-false _ c.if-not-check.false-raw) (omega arith) (omega arith) c.if-out-lt-ROOM.true; taken = (refl, refl, refl) }

pub returns-then-st : goal.returns-then-st
returns-then-st c =
    let a = c.args in
    record {
      answered = turn-taken a.m.now a.buf.now a.out.now a.st (sym c.check.ensures ∙ not-false _ c.if-not-check.false-raw) (omega arith) (omega arith) (omega arith);
      taken = (λ e. (refl, (refl, refl, refl)), λ e. absurd (false≢true (sym e ∙ c.if-st.true)));
    }

pub advance-requires : goal.advance-requires
advance-requires c = (sym c.check.ensures ∙ not-false _ c.if-not-check.false-raw, omega arith, omega arith, omega arith)

pub returns : goal.returns
returns c =
    let a = c.args in
    record {
      answered = turn-taken a.m.now a.buf.now a.out.now a.st (sym c.check.ensures ∙ not-false _ c.if-not-check.false-raw) (omega arith) (omega arith) (omega arith);
      taken = (λ e. absurd (false≢true (sym c.if-st.false ∙ e)), λ e. c.advance.ensures);
    }
