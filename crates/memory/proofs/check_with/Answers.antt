-- `check_with` meets its contract.
use Rattle.std.specs.Prelude.{Option}
use mathlib.Core.Path.{sym, ap, subst, ◌∙◌}
use Prim.Native.Nat.{ℕ}
use borrow.Author.Tests.{not-true, not-false}
use Rattle.tree_check.specs.declared.Met.{Met}
use Rattle.memory.specs.Checks.{RootMet, head_right}
use Rattle.memory.proofs.Clauses.{tree-not, head-not, own-so}
use Rattle.memory.proofs.check_with.Goals as goal

pub returns-in_default : goal.returns-in_default
returns-in_default c =
    let k = c.check_root in
    let a = c.args in
    tree-not a.m.now a.seen.now c.requires (subst (λ (r : Option Met). RootMet a.m.now a.seen.now k.new.seen r) c.in_default.is k.ensures)

pub returns-then-not-head_right : goal.returns-then-not-head_right
returns-then-not-head_right c =
    let k = c.check_root in
    let a = c.args in
    head-not a.m.now a.seen.now c.requires k.new.seen c.in-Some.met.sum _ _ (subst (λ (r : Option Met). RootMet a.m.now a.seen.now k.new.seen r) c.in-Some.is k.ensures)
    (ap (λ (n : ℕ). head_right a.m.now n c.in-Some.met.sum) (sym k.auto.seen) ∙ sym c.head_right.ensures ∙ not-true _ c.if-not-head_right.true-raw)

pub returns : goal.returns
returns c =
    let k = c.check_root in
    let a = c.args in
    own-so a.m.now a.seen.now c.requires k.new.seen c.in-Some.met.sum _ _ (subst (λ (r : Option Met). RootMet a.m.now a.seen.now k.new.seen r) c.in-Some.is k.ensures)
    (ap (λ (n : ℕ). head_right a.m.now n c.in-Some.met.sum) (sym k.auto.seen) ∙ sym c.head_right.ensures ∙ not-false _ c.if-not-head_right.false-raw)
    c.slots_right.result c.slots_right.ensures
