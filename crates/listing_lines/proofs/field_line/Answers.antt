-- `listing_lines::put_field` meets its contract: its three pieces.
use mathlib.Core.Bool.{cond}
use mathlib.Core.List.{◌++◌}
use borrow.Author.Rules.{rules}
use lib.Dec.{eqb}
use Rattle.plain_journal.specs.Listing.{decimal, ok_text, refused_text, line_end}
use Rattle.listing_lines.proofs.Laws.{then-laid, field_is}
use Rattle.listing_lines.proofs.field_line.Goals as goal

pub returns : goal.returns
returns c =
    let a = c.args in
    let o = a.out.now in
    let d = c.put_decimal-a in
    let q = c.put_code-b in
    let e = c.put in
    let code = cond (eqb a.code 0) ok_text (refused_text ++ decimal a.code) in (
      search rules,
      rw field_is
          (then-laid o d.new.out e.new.out (decimal a.k) (code ++ line_end) a.at d.result e.result d.ensures.1
          (then-laid d.new.out q.new.out e.new.out code line_end d.result q.result e.result q.ensures.1 e.ensures)),
    )
