-- `insert_refusal` meets its contract: rule by rule.
use mathlib.Core.Path.{sym, ◌∙◌}
use borrow.Author.Tests.{not-true, not-false}
use Rattle.memory.proofs.Formed.{formed}
use Rattle.edit_rules.proofs.Rules.{insert-2, insert-3, insert-4, insert-5, insert-6, insert-fine}
use Rattle.edit_rules.proofs.insert_refusal.Goals as goal

pub returns-then-not-check : goal.returns-then-not-check
returns-then-not-check c =
    let a = c.args in
    insert-2 a.m.now a.piece.now a.p (sym c.check.ensures ∙ not-true _ c.if-not-check.true-raw)

pub returns-then-chars_of-p : goal.returns-then-chars_of-p
returns-then-chars_of-p c =
    let a = c.args in
    insert-3 a.m.now a.piece.now a.p (sym c.check.ensures ∙ not-false _ c.if-not-check.false-raw) _ c.chars_of.ensures.0 c.if-chars_of-p.true

pub returns-then-piece-gt-MAX_PIECE : goal.returns-then-piece-gt-MAX_PIECE
returns-then-piece-gt-MAX_PIECE c =
    let a = c.args in
    insert-4 a.m.now a.piece.now a.p (sym c.check.ensures ∙ not-false _ c.if-not-check.false-raw) _ c.chars_of.ensures.0 c.if-chars_of-p.false c.if-piece-gt-MAX_PIECE.true

pub returns-then-not-valid : goal.returns-then-not-valid
returns-then-not-valid c =
    let a = c.args in
    insert-5 a.m.now a.piece.now a.p (sym c.check.ensures ∙ not-false _ c.if-not-check.false-raw) _ c.chars_of.ensures.0 c.if-chars_of-p.false c.if-piece-gt-MAX_PIECE.false (sym c.valid.ensures ∙ not-true _ c.if-not-valid.true-raw)

pub most_bytes-requires : goal.most_bytes-requires
most_bytes-requires c = (formed c.args.m.now (sym c.check.ensures ∙ not-false _ c.if-not-check.false-raw)).least

pub returns-then-most_bytes-bytes_of : goal.returns-then-most_bytes-bytes_of
returns-then-most_bytes-bytes_of c =
    let a = c.args in
    insert-6 a.m.now a.piece.now a.p (sym c.check.ensures ∙ not-false _ c.if-not-check.false-raw) _ c.chars_of.ensures.0 c.if-chars_of-p.false c.if-piece-gt-MAX_PIECE.false (sym c.valid.ensures ∙ not-false _ c.if-not-valid.false-raw) _ _ c.most_bytes.ensures c.bytes_of.ensures.0 c.if-most_bytes-bytes_of.true

pub returns : goal.returns
returns c =
    let a = c.args in
    insert-fine a.m.now a.piece.now a.p (sym c.check.ensures ∙ not-false _ c.if-not-check.false-raw) _ c.chars_of.ensures.0 c.if-chars_of-p.false c.if-piece-gt-MAX_PIECE.false (sym c.valid.ensures ∙ not-false _ c.if-not-valid.false-raw) _ _ c.most_bytes.ensures c.bytes_of.ensures.0 c.if-most_bytes-bytes_of.false
