-- `pack_behind` meets its contract: the right text is read.
use mathlib.Core.Path.{refl}
use Rattle.child_info.proofs.TextRead.{read-never, read-text, read-room, read-size}
use Rattle.compact.proofs.pack.pack_behind.Goals as goal

pub slice_bounds-text-end : goal.slice_bounds-text-end
slice_bounds-text-end c =
    let a = c.args in
    let p = c.requires in
    read-room a.m.now a.r _ p.0.right refl c.text_of.result _ c.text_of.ensures _ c.in_ok-k.was

pub slice_bounds-pack_text-end : goal.slice_bounds-pack_text-end
slice_bounds-pack_text-end c =
    let a = c.args in
    let p = c.requires in
    read-size a.m.now a.r _ p.0.right refl c.text_of.result _ c.text_of.ensures _ c.in_ok-k.was

pub pack_text-requires : goal.pack_text-requires
pack_text-requires c =
    let a = c.args in
    let p = c.requires in
    (p.0, p.1, read-text a.m.now a.r _ p.0.right refl c.text_of.result _ c.text_of.ensures _ c.in_ok-k.was)

pub returns-in_err-k : goal.returns-in_err-k
returns-in_err-k c =
    let a = c.args in
    let p = c.requires in
    absurd (read-never a.m.now a.r _ p.0.right refl c.text_of.result _ c.text_of.ensures _ c.in_err-k.was)
