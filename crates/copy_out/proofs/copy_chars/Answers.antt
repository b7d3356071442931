-- `copy_chars` meets its contract: the bytes of a range of chars are a range of the note's bytes.
use native.Mathlib.Omega.{arith}
use Rattle.answer.proofs.Opened.{never-refused}
use Rattle.leaf_bytes.proofs.Opened.{value-is}
use Rattle.memory.specs.Formed.{note_of}
use Rattle.copy_out.proofs.Copied.{bytes-between, byte-in-range, out-short, out-done}
use Rattle.copy_out.proofs.copy_chars.Goals as goal

pub returns-in_err-a : goal.returns-in_err-a
returns-in_err-a c =
    never-refused _ _ _ c.byte_at.ensures c.in_err-a.was

pub returns-in_err-b : goal.returns-in_err-b
returns-in_err-b c =
    never-refused _ _ _ c.byte_at-2.ensures c.in_err-b.was

pub overflow_sub-n : goal.overflow_sub-n
overflow_sub-n c =
    let a = c.args in
    omega (arith, value-is _ _ c.byte_at.ensures _ c.in_ok-a.was, value-is _ _ c.byte_at-2.ensures _ c.in_ok-b.was, bytes-between (note_of a.m.now).text a.s a.e c.requires.1)

pub returns-then-out-n : goal.returns-then-out-n
returns-then-out-n c =
    let a = c.args in
    out-short a.m.now a.s a.e a.out.now c.requires.1 _ _ (value-is _ _ c.byte_at.ensures _ c.in_ok-a.was) (value-is _ _ c.byte_at-2.ensures _ c.in_ok-b.was) c.if-out-n.true

pub copy_bytes-requires : goal.copy_bytes-requires
copy_bytes-requires c =
    let a = c.args in
    let t = (note_of a.m.now).text in
    let i = value-is _ _ c.byte_at.ensures _ c.in_ok-a.was in
    let j = value-is _ _ c.byte_at-2.ensures _ c.in_ok-b.was in
    (c.requires.0, omega (arith, i, j, bytes-between t a.s a.e c.requires.1), omega (arith, j, byte-in-range t a.s a.e c.requires.1), c.if-out-n.false)

pub returns : goal.returns
returns c =
    let a = c.args in
    out-done a.m.now a.s a.e a.out.now c.requires.1 _ _ (value-is _ _ c.byte_at.ensures _ c.in_ok-a.was) (value-is _ _ c.byte_at-2.ensures _ c.in_ok-b.was) c.if-out-n.false _ c.copy_bytes.ensures
