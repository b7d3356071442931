-- `whole_ending` meets its contract.
use mathlib.Core.Path.{subst}
use mathlib.Core.List.{List}
use Prim.Native.Nat.{ℕ}
use native.Mathlib.Omega.{arith}
use Rattle.listing_lines.specs.Puts.{Laid}
use Rattle.listing_lines.proofs.Laws.{then-laid}
use Rattle.listing_end.proofs.Laws.{end_is}
use Rattle.listing_end.proofs.whole_ending.Goals as goal

pub returns : goal.returns
returns c =
    let a = c.args in
    let t = c.put_counts-a in
    let r = c.put_rows in (
      omega (arith, r.ensures.0, t.ensures.0),
      subst (λ (l : List ℕ). Laid a.at l a.out.now r.result r.new.out) (end_is a.m.now c.requires.0 _ c.root-root.ensures)
          (then-laid a.out.now t.new.out r.new.out _ _ a.at t.result r.result t.ensures.1 r.ensures.1),
    )
