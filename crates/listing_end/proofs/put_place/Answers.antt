-- `put_place` meets its contract.
use mathlib.Core.Path.{sym, ap}
use native.Mathlib.Omega.{arith}
use Rattle.listing_end.specs.MarkLines.{place_row}
use Rattle.listing_end.proofs.Laws.{mark-free, mark-live, laid_none, laid_one}
use Rattle.listing_end.proofs.put_place.Goals as goal

pub returns-in_default : goal.returns-in_default
returns-in_default c =
    let a = c.args in
    (omega arith, laid_none a.n a.out.now _ (sym (ap place_row (mark-free a.m.now a.k _ c.standing_at.ensures _ c.in_default.is))))

pub returns : goal.returns
returns c =
    let a = c.args in
    (omega arith, laid_one a.n a.out.now _ _ c.requires (sym (ap place_row (mark-live a.m.now a.k _ c.standing_at.ensures _ c.in-Ok.is))))
