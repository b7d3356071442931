-- `crlf::seam_is_break` meets its contract: refused at an empty side, else the two bytes at the seam.
use mathlib.Core.Path.{sym, ◌∙◌}
use native.Mathlib.Omega.{arith}
use Rattle.crlf.proofs.Laws.{seam-is, seam-left, seam-right, seam-in}
use Rattle.crlf.proofs.seam_is_break.Goals as goal

pub returns-then-left-eq0 : goal.returns-then-left-eq0
returns-then-left-eq0 c = seam-left _ _ _ c.if-left-eq0.true

pub returns-then-right-eq0 : goal.returns-then-right-eq0
returns-then-right-eq0 c = seam-right _ _ _ c.if-right-eq0.true

pub returns : goal.returns
returns c =
    let l = c.args.left.now in
    let r = c.args.right.now in
    seam-in l r _ _ (omega arith) (omega arith) (c.parts.ensures ∙ sym (seam-is l r (omega arith) (omega arith)))
