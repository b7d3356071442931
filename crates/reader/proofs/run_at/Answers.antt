-- `run_at` meets its contract: below the chars that the head says, from the char on; else empty.
use mathlib.Core.Path.{sym, ap, ◌∙◌}
use mathlib.Core.List.{List}
use Prim.Native.Nat.{ℕ}
use native.Mathlib.Omega.{arith}
use Rattle.leaf_parts.specs.Parts.{from_char}
use Rattle.reader.proofs.Rules.{run-here, run-over}
use Rattle.reader.proofs.run_at.Goals as goal

pub returns-then-p-chars_of : goal.returns-then-p-chars_of
returns-then-p-chars_of c =
    let a = c.args in
    let k = c.chars_of.ensures in (
      c.from_char.ensures.0 ∙ ap (λ (l : List ℕ). from_char l a.p) c.own_part.ensures.0 ∙ sym (run-here a.m.now a.p _ k.0 c.if-p-chars_of.true),
      omega arith,
    )

pub returns : goal.returns
returns c =
    let a = c.args in
    (sym (run-over a.m.now a.p _ c.chars_of.ensures.0 c.if-p-chars_of.false), omega arith)
