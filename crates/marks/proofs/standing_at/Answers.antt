-- `standing_at` meets its contract.
use Rattle.std.proofs.Common.{ℕ, sym, ap, ◌∙◌, arith}
use Rattle.plain.specs.Outcome.{Outcome.value}
use Rattle.marks.proofs.Rules.{none-stands, free-stands, live-stands}
use Rattle.marks.proofs.standing_at.Goals as goal

pub returns-then-k-ge-MARKS : goal.returns-then-k-ge-MARKS
returns-then-k-ge-MARKS c = let a = c.args in sym (none-stands a.m.now a.k (omega arith))

pub returns-then-mark_live-ne1 : goal.returns-then-mark_live-ne1
returns-then-mark_live-ne1 c = let a = c.args in sym (free-stands a.m.now a.k (λ e. omega arith))

pub returns : goal.returns
returns c =
    let a = c.args in
    ap (λ (p : ℕ). value p) c.mark_place.ensures.0 ∙ sym (live-stands a.m.now a.k (omega arith) (omega arith))
