-- `put_counts` meets its contract.
use mathlib.Core.Path.{subst}
use mathlib.Core.List.{List}
use Prim.Native.Nat.{ℕ, ◌+◌, ◌≤◌}
use lib.ListN.{length}
use Rattle.listing_lines.specs.Puts.{Laid}
use Rattle.listing_end.proofs.Laws.{totals-are}
use Rattle.listing_end.proofs.put_counts.Goals as goal

pub returns : goal.returns
returns c =
    let a = c.args in
    let t = c.put_totals in
    let room : a.at + 110 ≤ length a.out.now = c.requires in
    let v = t.ensures.0 room in
    (v.0, subst (λ (l : List ℕ). Laid a.at l a.out.now t.result t.new.out) (totals-are _ _ _ _ _ _ _ _ c.from-bytes.ensures c.from-chars.ensures c.from.ensures c.from-lines.ensures) v.1)
