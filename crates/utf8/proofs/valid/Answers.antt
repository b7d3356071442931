-- `utf8::valid` meets its contract: ASCII, classes, or windows.
use mathlib.Core.Path.{sym, ap, ◌∙◌}
use mathlib.Core.Bool.{not}
use borrow.Author.Tests.{ltb-true}
use Rattle.utf8.specs.Bmp.{highest}
use Rattle.utf8.proofs.Highest.{ascii-valid}
use Rattle.utf8.proofs.Windows.{valid-scan}
use Rattle.utf8.proofs.valid.Goals as goal

pub returns-then-ascii : goal.returns-then-ascii
returns-then-ascii c =
    let s = c.args.text.now in
    sym (ascii-valid s (ltb-true (highest s) 0x80 (sym c.ascii.ensures ∙ c.if-ascii.true)))

pub returns : goal.returns
returns c = ap not c.wrong.ensures ∙ sym (valid-scan _)
