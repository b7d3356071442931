-- `slots_right` meets its contract.
use mathlib.Core.Path.{refl, subst}
use mathlib.Core.Bool.{Bool}
use lib.ListN.{length}
use borrow.Author.Tests.{not-true, not-false}
use Rattle.memory.specs.Checks.{Walked}
use Rattle.memory.proofs.Clauses.{sorted-not, sorted-so}
use Rattle.memory.proofs.slots_right.Goals as goal

pub returns-then-not-walk : goal.returns-then-not-walk
returns-then-not-walk c =
    let w = c.walk in
    let f = c.first_free in
    let a = c.args in
    let n = length a.seen.now in
    sorted-not a.m.now a.seen.now w.new.seen n refl c.requires.1 f.result f.ensures.0 (subst (λ (t : Bool). Walked a.m.now n f.result a.seen.now w.new.seen t) (not-true w.result c.if-not-walk.true-raw) w.ensures)

pub returns : goal.returns
returns c =
    let w = c.walk in
    let f = c.first_free in
    let a = c.args in
    let n = length a.seen.now in
    sorted-so a.m.now a.seen.now w.new.seen n refl c.requires.1 f.result f.ensures.0 (subst (λ (t : Bool). Walked a.m.now n f.result a.seen.now w.new.seen t) (not-false w.result c.if-not-walk.false-raw) w.ensures) w.auto.seen
    c.all_met.result c.all_met.ensures
