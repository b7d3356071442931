-- `move_mark` meets its contract: a mark that is not live stays, and the place of a live one is written.
use Rattle.std.proofs.Common.{ℕ, ◌%◌, ◌^◌, sym, refl, ap, ◌∙◌, arith}
use Rattle.plain_calls.specs.Marks.{moved_to}
use Rattle.note_head.specs.Head.{live_at}
use Rattle.note_head.specs.Writes.{place_put}
use Rattle.note_head.proofs.Laid.{place-there}
use Rattle.marks.proofs.Rules.{moves_live, moves-free, place-accepted}
use Rattle.marks.proofs.move_mark.Goals as goal

pub returns-then-m-k-ne1 : goal.returns-then-m-k-ne1
unfolding live_at
returns-then-m-k-ne1 c = let a = c.args in (refl, sym (moves-free (moved_to a.s a.e a.new) a.m.now a.k (λ e. omega arith)))

pub returns : goal.returns
unfolding live_at
returns c =
    let a = c.args in
    let f = moved_to a.s a.e a.new in
    let w = c.set_mark_place.ensures in (
      place-accepted a.m.now c.requires.0 a.k c.requires.1 _ _ _ w,
      place-there a.m.now c.requires.0 a.k c.requires.1 _ _ _ w
          ∙ ap (λ (q : ℕ). place_put a.m.now a.k (q % 2 ^ 32)) (c.moved_to-q.ensures ∙ ap f c.mark_place.ensures.0)
          ∙ sym (moves_live f a.m.now a.k (omega arith)),
    )
