-- `seam::seam_split` meets its contract: the seam itself, or a break beside it.
use mathlib.Core.Path.{sym, ap, ◌∙◌}
use Prim.Native.Nat.{ℕ}
use native.Mathlib.Omega.{arith}
use Rattle.plain.specs.Outcome.{Outcome.value}
use Rattle.leaf_bytes.proofs.Opened.{seam-never, seam-value}
use Rattle.leaf_bytes.proofs.Split.{seam-kept}
use Rattle.leaf_seams.proofs.seam.seam_split.Goals as goal

pub returns-then-is_break : goal.returns-then-is_break
returns-then-is_break c =
    let a = c.args in
    let is = seam-value a.l.now a.r.now (omega arith) (omega arith) _ _ c.seam_is_break.ensures _ c.in_ok-is_break.was in
    ap (λ (n : ℕ). value n) (sym (seam-kept a.l.now a.r.now (sym is ∙ c.if-is_break.true)))

pub split_beside-requires : goal.split_beside-requires
split_beside-requires c =
    let a = c.args in
    let is = seam-value a.l.now a.r.now (omega arith) (omega arith) _ _ c.seam_is_break.ensures _ c.in_ok-is_break.was in
    (omega arith, omega arith, sym is ∙ c.if-is_break.false)

pub returns-in_err-is_break : goal.returns-in_err-is_break
returns-in_err-is_break c =
    let a = c.args in
    absurd (seam-never a.l.now a.r.now (omega arith) (omega arith) _ _ c.seam_is_break.ensures _ c.in_err-is_break.was)
