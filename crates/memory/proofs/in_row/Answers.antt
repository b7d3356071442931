-- `in_row` meets its contract.
use Rattle.std.specs.Prelude.{Ok}
use mathlib.Core.Path.{refl, sym, ◌∙◌, ap}
use mathlib.Core.Bool.{false≢true}
use native.Mathlib.Omega.{arith}
use lib.ListN.{length}
use borrow.Author.Tests.{eqb-true}
use Rattle.memory.proofs.Free.{free-is}
use Rattle.memory.proofs.in_row.Goals as goal

pub returns-in_default : goal.returns-in_default
returns-in_default c = λ e. absurd (false≢true e)

pub returns-in_default-head : goal.returns-in_default-head
returns-in_default-head c = λ e. absurd (false≢true e)

pub bounds-seen-at : goal.bounds-seen-at
bounds-seen-at c =
    let a = c.args in
    let h = c.head_of in
    (free-is a.m.now a.at (length a.seen.now) c.requires h.result h.ensures _ (c.in-Ok.is ∙ ap Ok c.in-Free.is)).0

pub returns-then-seen-at-ne0 : goal.returns-then-seen-at-ne0
returns-then-seen-at-ne0 c = λ e. absurd (false≢true e)

pub overflow_add-result : goal.overflow_add-result
overflow_add-result c =
    let a = c.args in
    let h = c.head_of in
    let f = (free-is a.m.now a.at (length a.seen.now) c.requires h.result h.ensures _ (c.in-Ok.is ∙ ap Ok c.in-Free.is)).0 in
    omega (arith, f)

pub returns : goal.returns
returns c = λ e.
    let a = c.args in
    let h = c.head_of in
    let f = free-is a.m.now a.at (length a.seen.now) c.requires h.result h.ensures _ (c.in-Ok.is ∙ ap Ok c.in-Free.is) in
    record { here = f.0; free = f.1; new = c.if-seen-at-ne0.false; on = sym (eqb-true _ _ e) ∙ f.2; marked = refl }
