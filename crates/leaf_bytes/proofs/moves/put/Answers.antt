-- `moves::put` meets its contract: a copy, byte by byte.
use mathlib.Core.Path.{◌≡◌, refl, ap, ◌∙◌}
use mathlib.Core.List.{List}
use Prim.Native.Nat.{ℕ, ◌+◌}
use native.Mathlib.Omega.{arith}
use borrow.Author.Rules.{rules}
use lib.ListN.{length, get_or, set, length-set}
use lib.Seq.{paste, paste-zero, take-length}
use Rattle.octets.specs.Over.{overlaid}
use Rattle.leaf_bytes.proofs.Copies.{paste-turn, paste-whole}
use Rattle.leaf_bytes.proofs.moves.put.Goals as goal

pub loop-i-init : goal.loop-i-init
loop-i-init c = (search rules, paste-zero c.args.region.now c.args.at c.args.piece.now, refl)

pub loop-i-preserved : goal.loop-i-preserved
loop-i-preserved c =
    let i = c.loop-i.i in
    let a = c.args in (
      omega arith,
      ap (λ (l : List ℕ). set l (a.at + i) (get_or a.piece.now i 0)) c.loop-i.invariant.1 ∙ paste-turn a.region.now a.at a.piece.now i (omega arith) (omega arith),
      simp length-set c.loop-i.invariant.2,
    )

pub returns : goal.returns
returns c =
    let a = c.args in
    let z : c.loop-i.i ≡ length a.piece.now = omega arith in
    c.loop-i.invariant.1
    ∙ ap (paste a.region.now a.at a.piece.now) z
    ∙ paste-whole a.region.now a.at a.piece.now (length a.piece.now) (omega arith)
    ∙ ap (λ (l : List ℕ). overlaid a.at l a.region.now) (take-length a.piece.now)
