-- `search` meets its contract: for each answer of `head_of`.
use Rattle.std.specs.Prelude.{Ok}
use Rattle.answer.proofs.Opened.{raised}
use mathlib.Core.Path.{refl, ap, ◌∙◌}
use Rattle.nodes.proofs.Heads.{head-list, head-none, head-no-list}
use Rattle.nodes.proofs.Rules.{search-none, search-done}
use Rattle.nodes.proofs.search.Goals as goal

pub returns : goal.returns
returns c =
    let a = c.args in
    let r = c.head_of in
    let h = head-list a.m.now a.slot r.result r.ensures _ (c.in_ok-n.was ∙ ap Ok c.in-List.is) in
    (search-done a.m.now a.slot a.by a.at _ c.search_in.result h.0 h.1 c.search_in.ensures.0, c.search_in.ensures.1)

pub returns-in_err-n : goal.returns-in_err-n
returns-in_err-n c = rw (raised c.from_residual.ensures.1) (
    let a = c.args in
    let r = c.head_of in
    let h = head-none a.m.now a.slot r.result r.ensures _ c.in_err-n.was in
    (search-none a.m.now a.slot a.by a.at _ h.1 h.2, tt))

pub returns-in_default : goal.returns-in_default
returns-in_default c =
    let a = c.args in
    (search-none a.m.now a.slot a.by a.at _ (head-no-list a.m.now a.slot _ c.head_of.ensures _ c.in_ok-n.was c.in_default.not-List) refl, tt)
