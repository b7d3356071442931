-- `listing_lines::put_mark` meets its contract: its four pieces.
use mathlib.Core.List.{◌++◌}
use borrow.Author.Rules.{rules}
use Rattle.plain_journal.specs.Listing.{mark_text, place_text, line_text, line_end, decimal}
use Rattle.listing_lines.proofs.Laws.{then-laid, mark-is}
use Rattle.listing_lines.proofs.mark_line.Goals as goal

pub returns : goal.returns
returns c =
    let a = c.args in
    let p = c.put_counted-a in
    let q = c.put_counted-b in
    let s = c.put_counted-c in
    let h = place_text ++ decimal a.place in
    let l = line_text ++ decimal a.line in
    let e = c.put in
    let e3 = then-laid q.new.out s.new.out e.new.out l line_end q.result s.result e.result s.ensures.1 e.ensures in
    let e2 = then-laid p.new.out q.new.out e.new.out h (l ++ line_end) p.result q.result e.result q.ensures.1 e3 in
    (search rules, rw mark-is (then-laid a.out.now p.new.out e.new.out (mark_text ++ decimal a.k) (h ++ (l ++ line_end)) a.at p.result e.result p.ensures.1 e2))
