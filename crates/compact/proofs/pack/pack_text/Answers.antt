-- `pack_text` meets its contract: in each of its cases the edits come to `packed`.
use native.Mathlib.Omega.{arith}
use Rattle.child_info.proofs.TextRead.{text-size}
use Rattle.compact.proofs.Edits.{all-edit, no-edit, part-told}
use Rattle.compact.proofs.pack.pack_text.Goals as goal

pub overflow_add-a : goal.overflow_add-a
overflow_add-a c =
    let a = c.args in
    let p = c.requires in
    omega (arith, (text-size a.m.now a.l p.0.left.leaf).1)

pub returns-then-a-text-le-MAX_BYTES : goal.returns-then-a-text-le-MAX_BYTES
returns-then-a-text-le-MAX_BYTES c =
    let a = c.args in
    let p = c.requires in
    all-edit a.m.now a.l a.r p.0 a.a a.text.now p.1 p.2 (omega arith) c.edit_leaf.result c.told_if.result _ c.edit_leaf.ensures c.told_if.ensures

pub returns-then-a-lt-MAX_BYTES : goal.returns-then-a-lt-MAX_BYTES
returns-then-a-lt-MAX_BYTES c =
    let a = c.args in
    let p = c.requires in
    (part-told a.m.now a.l a.r p.0 a.a a.text.now p.1 p.2 (omega arith) c.fill.result c.told_if-then-a-lt-MAX_BYTES.result c.fill.ensures.0 c.told_if-then-a-lt-MAX_BYTES.ensures, c.fill.ensures.1)

pub returns : goal.returns
returns c =
    let a = c.args in
    let p = c.requires in
    no-edit a.m.now a.l a.r p.0 a.a a.text.now p.1 p.2 (omega arith) (omega arith)
