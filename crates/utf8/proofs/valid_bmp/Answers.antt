-- `utf8::valid_bmp` meets its contract: classes and the highest byte, or windows of three bytes.
use mathlib.Core.Path.{sym, ap, ◌∙◌}
use mathlib.Core.Bool.{Bool, not, ◌&&◌, and-true}
use native.Mathlib.Omega.{arith}
use lib.ListN.{length}
use Rattle.plain.specs.Utf8.{valid_utf8}
use Rattle.utf8.specs.Bmp.{valid_bmp}
use Rattle.utf8.proofs.Highest.{below_end}
use Rattle.utf8.proofs.Bmp.{bmp-scan}
use Rattle.utf8.proofs.valid_bmp.Goals as goal

pub returns-then-text-lt-LONG : goal.returns-then-text-lt-LONG
unfolding valid_bmp
returns-then-text-lt-LONG c =
    let s = c.args.text.now in
    let low = c.part_below.result in
    (λ i. c.valid_short.ensures i && sym (and-true low) i)
    ∙ ap (λ (t : Bool). valid_utf8 s && (low && t)) (sym (below_end s (length s) 0xF0 (omega arith) (omega arith)))
    ∙ ap (λ (t : Bool). valid_utf8 s && t) c.part_below.ensures

pub returns : goal.returns
returns c = ap not c.wrong.ensures ∙ sym (bmp-scan _)
