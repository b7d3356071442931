-- `listing_lines::put_decimal` meets its contract: `io::decimal` has at most 20 digits, and they are those of `decimal`.
use mathlib.Core.Path.{subst, ◌∙◌}
use mathlib.Core.List.{List}
use Prim.Native.Nat.{ℕ}
use native.Mathlib.Omega.{arith}
use Rattle.listing_lines.specs.Puts.{Laid}
use Rattle.listing_lines.proofs.Laws.{places-le, decimal-is}
use Rattle.listing_lines.proofs.put_decimal.Goals as goal

pub put-requires : goal.put-requires
put-requires c =
    let d = c.decimal-k in
    omega (arith, d.ensures.in_bounds.1, places-le d.result c.args.n c.ranges.n.fits d.ensures.len)

pub returns : goal.returns
returns c =
    let d = c.decimal-k in
    let p = c.put in
    let a = c.args in
    let fits = c.ranges.n.fits in
    let few = d.ensures.len in (
      omega (arith, p.ensures.0, d.ensures.in_bounds.1, places-le d.result a.n fits few),
      subst (λ (l : List ℕ). Laid a.at l a.out.now p.result p.new.out) (d.ensures.digits ∙ decimal-is d.result a.n fits few) p.ensures,
    )
