-- `update_child_info` meets its contract.
use Rattle.std.specs.Prelude.{Ok}
use Rattle.answer.proofs.Opened.{raised}
use mathlib.Core.Path.{refl, sym, ap, ◌∙◌}
use native.Mathlib.Omega.{arith}
use Rattle.plain.specs.Outcome.{Outcome.refused}
use Rattle.pool.proofs.Rules.{wrote-refused}
use Rattle.nodes.proofs.Heads.{head-leaf, head-list, head-free, head-none, leaf-no-list, list-says, not-outside, head-no-list}
use Rattle.child_info.proofs.Renewing.{wrote-same, updated-no, updated_none, updated-past, updated-on}
use Rattle.child_update.proofs.update_child_info.Goals as goal

pub returns-then-n-eq0 : goal.returns-then-n-eq0
returns-then-n-eq0 c =
    let a = c.args in
    let o = c.head_of in
    let h = head-list a.m.now a.slot o.result o.ensures _ (c.in_ok-n.was ∙ ap Ok c.in-List.is) in
    wrote-refused _ _ _ 12 (updated_none a.m.now a.slot a.idx h.0 (omega arith)) refl

pub returns-then-n-idx : goal.returns-then-n-idx
returns-then-n-idx c =
    let a = c.args in
    let o = c.head_of in
    let h = head-list a.m.now a.slot o.result o.ensures _ (c.in_ok-n.was ∙ ap Ok c.in-List.is) in
    wrote-refused _ _ _ 3 (updated-past a.m.now a.slot a.idx h.0 (omega arith) (omega arith)) refl

pub renew-requires : goal.renew-requires
renew-requires c =
    let a = c.args in
    let o = c.head_of in
    let h = head-list a.m.now a.slot o.result o.ensures _ (c.in_ok-n.was ∙ ap Ok c.in-List.is) in
    (not-outside a.m.now a.slot (list-says a.m.now a.slot h.0).0, omega arith)

pub returns : goal.returns
returns c =
    let a = c.args in
    let o = c.head_of in
    let h = head-list a.m.now a.slot o.result o.ensures _ (c.in_ok-n.was ∙ ap Ok c.in-List.is) in
    wrote-same _ _ _ _ _ (sym (updated-on a.m.now a.slot a.idx h.0 (omega arith))) c.renew.ensures

pub returns-in_err-n : goal.returns-in_err-n
returns-in_err-n c = rw (raised c.from_residual.ensures.1) (
    let a = c.args in
    let o = c.head_of in
    let h = head-none a.m.now a.slot o.result o.ensures _ c.in_err-n.was in
    wrote-refused _ _ _ 2 (updated-no a.m.now a.slot a.idx h.1) (ap (λ n. refused n) h.2))

pub returns-in_default : goal.returns-in_default
returns-in_default c =
    let a = c.args in
    wrote-refused _ _ _ 2 (updated-no a.m.now a.slot a.idx (head-no-list a.m.now a.slot _ c.head_of.ensures _ c.in_ok-n.was c.in_default.not-List)) refl
