-- `replace` meets its contract.
use mathlib.Core.Path.{refl, ap}
use Prim.Native.Nat.{ℕ}
use native.Mathlib.Omega.{arith}
use Rattle.plain.specs.Outcome.{Outcome.value}
use Rattle.leaf_bytes.proofs.Calls.{replace-falls, replace-past, replace-long, replace-size, replace-grows, replace-done}
use Rattle.leaf_bytes.proofs.Rules.{leaf-refused, leaf-done}
use Rattle.leaf_bytes.proofs.replace.Goals as goal

pub returns-then-end-start : goal.returns-then-end-start
returns-then-end-start c =
    let a = c.args in
    leaf-refused _ _ _ 3 (replace-falls a.region.now a.len a.start a.end a.piece.now (omega arith)) refl

pub returns-then-held-end : goal.returns-then-held-end
returns-then-held-end c =
    let a = c.args in
    leaf-refused _ _ _ 3 (replace-past a.region.now a.len a.start a.end a.piece.now (omega arith)) refl

pub returns-then-most-len : goal.returns-then-most-len
returns-then-most-len c =
    let a = c.args in
    leaf-refused _ _ _ 11 (replace-long a.region.now a.len a.start a.end a.piece.now (omega arith) (omega arith) (omega arith)) refl

pub returns-then-most-kept : goal.returns-then-most-kept
returns-then-most-kept c =
    let a = c.args in
    leaf-refused _ _ _ 11 (replace-grows a.region.now a.len a.start a.end a.piece.now (omega arith) (omega arith) (omega arith) (omega arith)) refl

pub returns : goal.returns
returns c =
    let a = c.args in
    leaf-done _ _ _ _ _
    (replace-done a.region.now a.len a.start a.end a.piece.now (omega arith) (omega arith) (omega arith) (omega arith))
    (ap (λ (n : ℕ). value n) (replace-size a.region.now a.len a.start a.end a.piece.now (omega arith) (omega arith) (omega arith)))
    c.exchange.ensures
