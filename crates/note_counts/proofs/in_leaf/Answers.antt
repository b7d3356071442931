-- `in_leaf` meets its contract: the text is the part of the memory that is lent.
use Rattle.std.specs.Prelude.{Ok}
use mathlib.Core.Path.{sym, ap, ◌∙◌}
use mathlib.Core.Bool.{false≢true}
use Prim.Native.Nat.{ℕ}
use lib.ListN.{length}
use native.Mathlib.Omega.{arith}
use Rattle.plain.specs.Utf8.{valid_utf8}
use Rattle.plain.specs.Outcome.{Outcome.value}
use Rattle.pool.proofs.Opened.{region-opened}
use Rattle.nodes.proofs.Heads.{leaf-says, head-leaf, head-no-leaf, head-none}
use Rattle.nodes.proofs.Laid.{region-there}
use Rattle.nodes.proofs.Accepted.{text-length}
use Rattle.note_counts.proofs.Rules.{lent-text, lent-turned}
use Rattle.note_counts.proofs.in_leaf.Goals as goal

pub returns-in_err-n : goal.returns-in_err-n
returns-in_err-n c = let a = c.args in absurd (false≢true (sym (head-none a.m.now a.slot _ c.head_of.ensures _ c.in_err-n.was).0 ∙ c.requires.0))

pub returns-in_default : goal.returns-in_default
returns-in_default c = let a = c.args in absurd (false≢true (sym (head-no-leaf a.m.now a.slot _ c.head_of.ensures _ c.in_ok-n.was c.in_default.not-Leaf) ∙ c.requires.0))

pub returns-in_err-at : goal.returns-in_err-at
returns-in_err-at c = let a = c.args in absurd (region-there _ a.m.now a.slot _ c.region_start.ensures c.in_err-at.was (leaf-says a.m.now a.slot c.requires.0).0)

pub overflow_add-at : goal.overflow_add-at
overflow_add-at c =
    let a = c.args in
    let h = head-leaf a.m.now a.slot _ c.head_of.ensures _ (c.in_ok-n.was ∙ ap Ok c.in-Leaf.is) in
    let o = region-opened _ a.m.now a.slot _ c.region_start.ensures c.in_ok-at.was in
    omega (arith, h.2, o.0, o.1)

pub turn-requires : goal.turn-requires
turn-requires c =
    let a = c.args in
    let h = head-leaf a.m.now a.slot _ c.head_of.ensures _ (c.in_ok-n.was ∙ ap Ok c.in-Leaf.is) in
    let o = region-opened _ a.m.now a.slot _ c.region_start.ensures c.in_ok-at.was in
    let e = lent-text a.m.now a.slot _ _ o.1 h.1 h.2 in
    (ap valid_utf8 e ∙ c.requires.1, omega (arith, ap length e, text-length a.m.now a.slot c.requires.0, h.1, h.2))

pub returns : goal.returns
returns c =
    let a = c.args in
    let h = head-leaf a.m.now a.slot _ c.head_of.ensures _ (c.in_ok-n.was ∙ ap Ok c.in-Leaf.is) in
    let o = region-opened _ a.m.now a.slot _ c.region_start.ensures c.in_ok-at.was in
    let e = lent-turned _ _ _ _ a.idx _ (lent-text a.m.now a.slot _ _ o.1 h.1 h.2) c.turn.ensures.0 in
    (ap (λ (n : ℕ). value n) e, omega (arith, e, c.turn.ensures.1))

pub slice_bounds-turn-end : goal.slice_bounds-turn-end
slice_bounds-turn-end c =
    let a = c.args in
    let h = head-leaf a.m.now a.slot _ c.head_of.ensures _ (c.in_ok-n.was ∙ ap Ok c.in-Leaf.is) in
    let o = region-opened _ a.m.now a.slot _ c.region_start.ensures c.in_ok-at.was in
    omega (arith, h.2, o.0, o.1)
