-- `move_run` meets its contract: free marks stay, and else the first j of the run have moved.
use Rattle.std.proofs.Common.{◌≡◌, ℕ, ◌+◌, List, sym, refl, ap, ◌∙◌, arith, rules}
use Rattle.plain_calls.specs.Marks.{moved_to}
use Rattle.answer.proofs.Opened.{never-refused}
use Rattle.marks.specs.MarkBytes.{mark_moved, run_moved}
use Rattle.marks.proofs.Runs.{run_none, run_more, run-free}
use Rattle.marks.proofs.move_run.Goals as goal

pub returns-then-live_bytes-eq0 : goal.returns-then-live_bytes-eq0
returns-then-live_bytes-eq0 c =
    let a = c.args in
    (refl, sym (run-free (moved_to a.s a.e a.new) a.m.now a.k 8 (sym c.live_bytes.ensures ∙ c.if-live_bytes-eq0.true)))

pub loop-j-init : goal.loop-j-init
loop-j-init c =
    let a = c.args in
    (refl, sym (run_none (moved_to a.s a.e a.new) a.m.now a.k))

pub returns-in_err-move_mark : goal.returns-in_err-move_mark
returns-in_err-move_mark c = never-refused _ _ tt c.move_mark.ensures.0 c.in_err-move_mark.was

pub loop-j-preserved : goal.loop-j-preserved
loop-j-preserved c =
    let a = c.args in
    let l = c.loop-j in
    let f = moved_to a.s a.e a.new in
    (search rules, c.move_mark.ensures.1 ∙ ap (λ (x : List ℕ). mark_moved f x (a.k + l.j)) l.invariant.1 ∙ run_more f a.m.now a.k l.j)

pub returns : goal.returns
returns c =
    let a = c.args in
    let l = c.loop-j in
    let z : l.j ≡ 8 = omega arith in
    (refl, l.invariant.1 ∙ ap (run_moved (moved_to a.s a.e a.new) a.m.now a.k) z)
