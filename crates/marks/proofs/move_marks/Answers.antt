-- `move_marks` meets its contract: the marks of the first i runs have moved.
use Rattle.std.proofs.Common.{◌≡◌, ℕ, ◌+◌, ◌*◌, List, refl, ap, ◌∙◌, arith, rules}
use Rattle.plain_calls.specs.Marks.{moved_to}
use Rattle.answer.proofs.Opened.{never-refused}
use Rattle.marks.specs.MarkBytes.{run_moved, marks_moved}
use Rattle.marks.proofs.Runs.{run-behind}
use Rattle.marks.proofs.move_marks.Goals as goal

pub loop-i-init : goal.loop-i-init
unfolding marks_moved
loop-i-init c = (refl, refl)

pub returns-in_err-move_run : goal.returns-in_err-move_run
returns-in_err-move_run c = never-refused _ _ tt c.move_run.ensures.0 c.in_err-move_run.was

pub loop-i-preserved : goal.loop-i-preserved
loop-i-preserved c =
    let a = c.args in
    let l = c.loop-i in
    let f = moved_to a.s a.e a.new in
    let z : 8 * l.i + 8 ≡ 8 * (l.i + 1) = omega arith in
    (search rules, c.move_run.ensures.1 ∙ ap (λ (x : List ℕ). run_moved f x (8 * l.i) 8) l.invariant.1 ∙ run-behind f a.m.now (8 * l.i) 8 ∙ ap (marks_moved f a.m.now) z)

pub returns : goal.returns
returns c =
    let a = c.args in
    let l = c.loop-i in
    let z : 8 * l.i ≡ 256 = omega arith in
    (refl, l.invariant.1 ∙ ap (marks_moved (moved_to a.s a.e a.new) a.m.now) z)
