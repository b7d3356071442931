-- `take_free` meets its contract.
use Rattle.std.specs.Prelude.{Ok}
use mathlib.Core.Path.{refl, ap, ◌∙◌}
use native.Mathlib.Omega.{arith}
use lib.ListN.{length}
use Rattle.memory.proofs.Free.{free-is, free-not, refused-not}
use Rattle.tree_check.proofs.Marks.{mark-met}
use Rattle.memory.proofs.take_free.Goals as goal

pub returns-in_default : goal.returns-in_default
returns-in_default c =
    let a = c.args in
    λ h k e. refused-not a.m.now a.slot (length a.seen.now) c.requires c.head_of.result c.head_of.ensures _ c.in_default.is h k

pub returns-in_default-held : goal.returns-in_default-held
returns-in_default-held c =
    let a = c.args in
    λ h k e. free-not a.m.now a.slot (length a.seen.now) c.requires c.head_of.result c.head_of.ensures _ c.in-Ok.is c.in_default-held.not-Free h k

pub bounds-seen-slot : goal.bounds-seen-slot
bounds-seen-slot c =
    let a = c.args in
    let h = c.head_of in
    (free-is a.m.now a.slot (length a.seen.now) c.requires h.result h.ensures _ (c.in-Ok.is ∙ ap Ok c.in-Free.is)).0

pub returns-then-seen-slot-ne0 : goal.returns-then-seen-slot-ne0
returns-then-seen-slot-ne0 c =
    let a = c.args in
    λ h k e. let y = mark-met a.seen.now a.slot h c.if-seen-slot-ne0.true in omega arith

pub bounds-seen-slot-2 : goal.bounds-seen-slot-2
bounds-seen-slot-2 c =
    let a = c.args in
    let h = c.head_of in
    (free-is a.m.now a.slot (length a.seen.now) c.requires h.result h.ensures _ (c.in-Ok.is ∙ ap Ok c.in-Free.is)).0

pub returns : goal.returns
returns c =
    let a = c.args in
    let h = c.head_of in
    let f = free-is a.m.now a.slot (length a.seen.now) c.requires h.result h.ensures _ (c.in-Ok.is ∙ ap Ok c.in-Free.is) in
    record { here = f.0; free = f.1; new = c.if-seen-slot-ne0.false; on = f.2; marked = refl }
