-- `seam::split_beside` meets its contract: the breaks on both sides of the seam.
use mathlib.Core.Path.{ap}
use Prim.Native.Nat.{ℕ}
use native.Mathlib.Omega.{arith}
use Rattle.plain.specs.Outcome.{Outcome.value}
use Rattle.crlf.proofs.Laws.{index-value}
use Rattle.crlf.proofs.Breaks.{next_le}
use Rattle.leaf_bytes.proofs.Opened.{at-never, seam-beside}
use Rattle.leaf_seams.proofs.seam.split_beside.Goals as goal

pub returns-in_err-l_split : goal.returns-in_err-l_split
returns-in_err-l_split c = absurd (at-never _ _ _ _ _ (omega arith) c.prev_break.ensures c.in_err-l_split.was)

pub returns-in_err-next : goal.returns-in_err-next
returns-in_err-next c = absurd (at-never _ _ _ _ _ (omega arith) c.next_break.ensures c.in_err-next.was)

pub overflow_add-l : goal.overflow_add-l
overflow_add-l c =
    let next = index-value _ _ _ _ c.next_break.ensures _ c.in_ok-next.was in
    omega (arith, next, next_le c.args.r.now 0)

pub returns : goal.returns
returns c =
    let a = c.args in
    ap (λ (n : ℕ). value n)
    (seam-beside a.l.now a.r.now _ _ _ c.requires.2 (index-value _ _ _ _ c.prev_break.ensures _ c.in_ok-l_split.was)
    (index-value _ _ _ _ c.next_break.ensures _ c.in_ok-next.was) c.beside.ensures)
