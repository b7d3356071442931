-- `check_text` meets its contract: ASCII, chars of three bytes at most, or any.
use mathlib.Core.Path.{sym, ◌∙◌}
use mathlib.Core.Bool.{true≢false}
use Prim.Native.Nat.{◌<◌}
use native.Mathlib.Omega.{arith}
use borrow.Author.Tests.{not-true, not-false}
use Rattle.utf8.specs.Bmp.{highest}
use Rattle.utf8.proofs.Highest.{ascii-valid}
use Rattle.tree_check.proofs.Ends.{ascii-chars, low-wides, low-valid}
use Rattle.tree_check.proofs.texts.check_text.Goals as goal

pub fine-requires : goal.fine-requires
fine-requires c =
    let s = c.args.text.now in
    let t = c.of_text-s.ensures in
    let h : highest s < 0x80 = omega (arith, t.0) in
    (ascii-valid s h, ascii-chars s h, low-wides s (omega arith), t.1)

pub returns-then-not-valid_bmp : goal.returns-then-not-valid_bmp
returns-then-not-valid_bmp c = λ v.
    let s = c.args.text.now in
    let h : highest s < 0xF0 = omega (arith, c.of_text-s.ensures.0) in
    true≢false (sym v ∙ sym (low-valid s h) ∙ sym c.valid_bmp.ensures ∙ not-true _ c.if-not-valid_bmp.true-raw)

pub fine-requires-then-s-lt240 : goal.fine-requires-then-s-lt240
fine-requires-then-s-lt240 c =
    let s = c.args.text.now in
    let t = c.of_text-s.ensures in
    let h : highest s < 0xF0 = omega (arith, t.0) in
    (sym (low-valid s h) ∙ sym c.valid_bmp.ensures ∙ not-false _ c.if-not-valid_bmp.false-raw, c.count.ensures, low-wides s h, t.1)

pub returns-then-not-valid : goal.returns-then-not-valid
returns-then-not-valid c = λ v. true≢false (sym v ∙ sym c.valid.ensures ∙ not-true _ c.if-not-valid.true-raw)

pub fine-requires-2 : goal.fine-requires-2
fine-requires-2 c =
    (sym c.valid.ensures ∙ not-false _ c.if-not-valid.false-raw, c.count-2.ensures, c.count_surrogates.ensures, c.of_text-s.ensures.1)
