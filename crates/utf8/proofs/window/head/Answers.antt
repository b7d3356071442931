-- `window::head` meets its contract: three windows.
use mathlib.Core.Path.{◌∙◌}
use mathlib.Core.Bool.{◌||◌}
use lib.ListN.{get_or, drop}
use borrow.Author.Rules.{rules}
use Rattle.utf8.specs.Window.{scan}
use Rattle.utf8.proofs.Loops.{scan-head}
use Rattle.utf8.proofs.window.head.Goals as goal

pub returns : goal.returns
returns c =
    let a = c.args in
    let far = a.far in
    let s = a.text.now in
    (λ i. ((c.bad.ensures i || c.bad-2.ensures i) || c.bad-3.ensures i) || scan far (get_or s 0 0) (get_or s 1 0) (get_or s 2 0) (drop 3 s)) ∙ scan-head far s (search rules)
