-- `check_pair` meets its contract.
use Rattle.answer.proofs.Opened.{passed}
use Rattle.child_info.proofs.Rules.{list_read, unlisted, pair-no}
use Rattle.child_info.proofs.check_pair.Goals as goal

pub returns-in_err-found : goal.returns-in_err-found
returns-in_err-found c = rw (passed c.in_err-found.was c.from_residual.ensures.1) (
    let a = c.args in
    let l = c.load-found in
    unlisted a.m.now a.slot l.result l.ensures _ (λ e. pair-no a.m.now a.slot a.idx1 a.idx2 e) _ c.in_err-found.was)

pub check_two-requires : goal.check_two-requires
check_two-requires c =
    let a = c.args in
    let l = c.load-found in
    list_read a.m.now a.slot l.result l.ensures c.in_ok-found.was
