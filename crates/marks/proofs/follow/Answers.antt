-- `follow` meets its contract.
use Rattle.std.proofs.Common.{ℕ, ◌+◌, ◌%◌, ◌^◌, refl, ap, ◌∙◌, arith}
use Rattle.answer.proofs.Opened.{never-refused}
use Rattle.pool.proofs.Rules.{wrote-refused}
use Rattle.marks.proofs.Rules.{follow-short, follow-wrote}
use Rattle.marks.proofs.follow.Goals as goal

pub returns-then-m-lt-HEAD_BYTES : goal.returns-then-m-lt-HEAD_BYTES
returns-then-m-lt-HEAD_BYTES c = let a = c.args in wrote-refused _ _ _ 2 (follow-short a.m.now a.s a.e a.new (omega arith)) refl

pub returns-in_err-move_marks : goal.returns-in_err-move_marks
returns-in_err-move_marks c = never-refused _ _ tt c.move_marks.ensures.0 c.in_err-move_marks.was

pub returns : goal.returns
returns c =
    let a = c.args in
    follow-wrote a.m.now a.s a.e a.new (omega arith) _ (omega arith) c.move_marks.ensures.1 _
    (c.wrapping_add_u32-edits.ensures.value ∙ ap (λ (v : ℕ). (v + 1) % 2 ^ 32) c.edit_number.ensures)
    _ _ c.set_edit_number.ensures
