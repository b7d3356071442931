-- `checked_at` meets its contract: the leaf is the part of the memory that is lent.
use mathlib.Core.Path.{ap, ◌∙◌}
use mathlib.Core.List.{List, [], ◌∷◌}
use Prim.Native.Nat.{ℕ}
use native.Mathlib.Omega.{arith}
use lib.ListN.{length}
use Rattle.plain.specs.Outcome.{ruled}
use Rattle.node_text.specs.Texts.{off_chars, no_text}
use Rattle.pool.proofs.Opened.{region-opened}
use Rattle.nodes.proofs.Heads.{inside}
use Rattle.nodes.proofs.Laid.{region-there, text-lent}
use Rattle.leaf_nodes.proofs.checked_at.Goals as goal

pub returns-in_err-at : goal.returns-in_err-at
returns-in_err-at c = let a = c.args in absurd (region-there c.region_start.result a.m.now a.slot _ c.region_start.ensures c.in_err-at.was (inside a.m.now a.slot c.requires.0))

pub overflow_add-at : goal.overflow_add-at
overflow_add-at c = omega (arith, c.requires.1, region-opened c.region_start.result c.args.m.now c.args.slot _ c.region_start.ensures c.in_ok-at.was)

pub returns : goal.returns
returns c =
    let a = c.args in
    let o = region-opened c.region_start.result a.m.now a.slot _ c.region_start.ensures c.in_ok-at.was in
    c.checked.ensures
    ∙ ap (λ (l : List ℕ). ruled (off_chars l a.start a.end ∷ no_text l a.piece.now ∷ []) (length l)) (text-lent a.m.now a.slot _ a.n o.1 c.requires.1)

pub slice_bounds-checked-end : goal.slice_bounds-checked-end
slice_bounds-checked-end c = omega (arith, c.requires.1, region-opened c.region_start.result c.args.m.now c.args.slot _ c.region_start.ensures c.in_ok-at.was)
