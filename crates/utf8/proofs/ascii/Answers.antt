-- `utf8::ascii` meets its contract. The loop's invariant: what is still to be asked is asked of the bytes still to come.
use mathlib.Core.Path.{sym, ap, ◌∙◌}
use mathlib.Core.Bool.{Bool, ◌&&◌}
use native.Mathlib.Omega.{arith}
use borrow.Author.Tests.{not-true, not-false}
use lib.Dec.{ltb}
use lib.ListN.{drop}
use Rattle.utf8.specs.Bmp.{highest}
use Rattle.utf8.proofs.Highest.{below_end}
use Rattle.utf8.proofs.ascii.Goals as goal

pub returns-then-not-part_below : goal.returns-then-not-part_below
returns-then-not-part_below c =
    let e = c.stop-e.result in
    ap (λ (t : Bool). t && ltb (highest (drop e c.args.text.now)) 0x80) (sym (not-true c.part_below.result c.if-not-part_below.true-raw)) ∙ c.part_below.ensures ∙ c.loop-i.invariant.1

pub loop-i-preserved : goal.loop-i-preserved
loop-i-preserved c =
    let e = c.stop-e.result in (
      omega arith,
      ap (λ (t : Bool). t && ltb (highest (drop e c.args.text.now)) 0x80) (sym (not-false c.part_below.result c.if-not-part_below.false-raw)) ∙ c.part_below.ensures ∙ c.loop-i.invariant.1,
    )

pub returns : goal.returns
returns c =
    sym (below_end c.args.text.now c.loop-i.i 0x80 (omega arith) (omega arith)) ∙ c.loop-i.invariant.1
