-- `listing_lines::put_totals` meets its contract: its five pieces.
use mathlib.Core.List.{◌++◌}
use borrow.Author.Rules.{rules}
use Rattle.plain_journal.specs.Listing.{bytes_text, chars_text, units_text, lines_text, line_end, decimal}
use Rattle.listing_lines.proofs.Laws.{then-laid, totals-is}
use Rattle.listing_lines.proofs.totals_line.Goals as goal

pub returns : goal.returns
returns c =
    let a = c.args in
    let p = c.put_counted-a in
    let q = c.put_counted-b in
    let s = c.put_counted-c in
    let t = c.put_counted-d in
    let b = bytes_text ++ decimal a.bytes in
    let h = chars_text ++ decimal a.chars in
    let u = units_text ++ decimal a.utf16 in
    let l = lines_text ++ decimal a.lines in
    let e = c.put in
    let e4 = then-laid s.new.out t.new.out e.new.out l line_end s.result t.result e.result t.ensures.1 e.ensures in
    let e3 = then-laid q.new.out s.new.out e.new.out u (l ++ line_end) q.result s.result e.result s.ensures.1 e4 in
    let e2 = then-laid p.new.out q.new.out e.new.out h (u ++ (l ++ line_end)) p.result q.result e.result q.ensures.1 e3 in
    (search rules, rw totals-is (then-laid a.out.now p.new.out e.new.out b (h ++ (u ++ (l ++ line_end))) a.at p.result e.result p.ensures.1 e2))
