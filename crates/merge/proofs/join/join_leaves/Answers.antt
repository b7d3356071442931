-- `join_leaves` meets its contract: the right text is read, and joined.
use mathlib.Core.Path.{refl}
use Rattle.child_info.proofs.TextRead.{read-never, read-text, read-room, read-size}
use Rattle.merge.proofs.join.join_leaves.Goals as goal

pub slice_bounds-text-end : goal.slice_bounds-text-end
slice_bounds-text-end c = read-room c.args.m.now c.args.b _ c.requires.0.right refl c.text_of.result _ c.text_of.ensures _ c.in_ok-k.was

pub slice_bounds-join_text-end : goal.slice_bounds-join_text-end
slice_bounds-join_text-end c = read-size c.args.m.now c.args.b _ c.requires.0.right refl c.text_of.result _ c.text_of.ensures _ c.in_ok-k.was

pub join_text-requires : goal.join_text-requires
join_text-requires c = (c.requires.0, c.requires.1, read-text c.args.m.now c.args.b _ c.requires.0.right refl c.text_of.result _ c.text_of.ensures _ c.in_ok-k.was)

pub returns-in_err-k : goal.returns-in_err-k
returns-in_err-k c = absurd (read-never c.args.m.now c.args.b _ c.requires.0.right refl c.text_of.result _ c.text_of.ensures _ c.in_err-k.was)
