-- `listing_lines::put_counted` meets its contract: the word, then the number.
use borrow.Author.Rules.{rules}
use Rattle.plain_journal.specs.Listing.{decimal}
use Rattle.listing_lines.proofs.Laws.{then-laid}
use Rattle.listing_lines.proofs.put_counted.Goals as goal

pub returns : goal.returns
returns c =
    let a = c.args in
    let p = c.put-a in
    let q = c.put_decimal in
    (search rules, then-laid a.out.now p.new.out q.new.out a.word.now (decimal a.n) a.at p.result q.result p.ensures q.ensures.1)
