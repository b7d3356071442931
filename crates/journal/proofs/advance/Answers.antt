use mathlib.Core.Path.{sym}
use native.Mathlib.Omega.{arith}
use lib.Seq.{length-take-le}
use Rattle.journal.proofs.Turns.{advances}
use borrow.Author.Rules.{rules}
use Rattle.journal.proofs.advance.Goals as goal

pub slice_bounds-serve-end-2 : goal.slice_bounds-serve-end-2
slice_bounds-serve-end-2 c =
    let a = c.args in
    sym (length-take-le a.st.fill a.buf.now (omega arith))

pub serve-r-requires : goal.serve-r-requires
serve-r-requires c =
    let a = c.args in
    (c.requires.0, omega (arith, length-take-le a.st.fill a.buf.now (omega arith)), search rules)

pub slide-n-requires : goal.slide-n-requires
slide-n-requires c =
    let v = c.serve-r in
    let a = c.args in
    (omega (arith, v.ensures.used_le, length-take-le a.st.fill a.buf.now (omega arith)), search rules)

pub returns : goal.returns
returns c =
    let a = c.args in
    let v = c.serve-r in
    let d = c.slide-n in
    advances a.m.now v.new.m a.buf.now d.new.buf a.out.now v.new.out a.st v.result d.result (omega arith) v.ensures d.ensures
