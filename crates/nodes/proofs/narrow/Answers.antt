-- `narrow` meets its contract: each test that it makes is one of the rule's.
use Rattle.nodes.proofs.Rules.{wide-first, wide-second, wide-third, wide-fourth, wide-none, too_wide_lem, not_wide}
use Rattle.nodes.proofs.narrow.Goals as goal

pub returns-then-s-gt4294967295 : goal.returns-then-s-gt4294967295
returns-then-s-gt4294967295 c = let s = c.args.s in too_wide_lem s (wide-first s c.if-s-gt4294967295.true)

pub returns-then-s-gt4294967295-2 : goal.returns-then-s-gt4294967295-2
returns-then-s-gt4294967295-2 c = let s = c.args.s in too_wide_lem s (wide-second s c.if-s-gt4294967295.false c.if-s-gt4294967295-2.true)

pub returns-then-s-gt4294967295-3 : goal.returns-then-s-gt4294967295-3
returns-then-s-gt4294967295-3 c = let s = c.args.s in too_wide_lem s (wide-third s c.if-s-gt4294967295.false c.if-s-gt4294967295-2.false c.if-s-gt4294967295-3.true)

pub returns-then-s-gt4294967295-4 : goal.returns-then-s-gt4294967295-4
returns-then-s-gt4294967295-4 c = let s = c.args.s in too_wide_lem s (wide-fourth s c.if-s-gt4294967295.false c.if-s-gt4294967295-2.false c.if-s-gt4294967295-3.false c.if-s-gt4294967295-4.true)

pub returns : goal.returns
returns c =
    let s = c.args.s in
    not_wide s
    (wide-none s c.if-s-gt4294967295.false c.if-s-gt4294967295-2.false
    c.if-s-gt4294967295-3.false c.if-s-gt4294967295-4.false)
