-- `head_at` meets its contract: a case for each kind.
use mathlib.Core.Path.{ap, ◌∙◌}
use Prim.Native.Nat.{ℕ, ◌+◌}
use native.Mathlib.Omega.{arith}
use lib.ListN.{get_or}
use Rattle.plain.specs.Outcome.{Outcome.value}
use Rattle.octets.specs.Big.{two_at, four_at}
use Rattle.pool.specs.Calls.{Held.free, Held.leaf, Held.list}
use Rattle.pool.proofs.Rules.{free-is, leaf-is, list-is, leaf-long, list-long, no_kind, above}
use Rattle.pool.proofs.head_at.Goals as goal

pub returns-then-kind-eq-FREE : goal.returns-then-kind-eq-FREE
returns-then-kind-eq-FREE c = let a = c.args in ap (λ (n : ℕ). value (free n)) c.read_u32.ensures ∙ free-is (get_or a.m.now a.at 0) (two_at a.m.now (a.at + 2)) (four_at a.m.now (a.at + 4)) c.if-kind-eq-FREE.true

pub returns-then-len-le-MAX_BYTES : goal.returns-then-len-le-MAX_BYTES
returns-then-len-le-MAX_BYTES c = let a = c.args in ap (λ (n : ℕ). value (leaf n)) c.read_u16-len.ensures.0 ∙ leaf-is (get_or a.m.now a.at 0) (two_at a.m.now (a.at + 2)) (four_at a.m.now (a.at + 4)) c.if-kind-eq-LEAF.true (omega (arith, c.read_u16-len.ensures))

pub returns-then-kind-eq-LEAF : goal.returns-then-kind-eq-LEAF
returns-then-kind-eq-LEAF c = let a = c.args in leaf-long (get_or a.m.now a.at 0) (two_at a.m.now (a.at + 2)) (four_at a.m.now (a.at + 4)) c.if-kind-eq-LEAF.true (omega (arith, c.read_u16-len.ensures))

pub returns-then-len-le-MAX_CHILDREN : goal.returns-then-len-le-MAX_CHILDREN
returns-then-len-le-MAX_CHILDREN c = let a = c.args in ap (λ (n : ℕ). value (list n)) c.read_u16-len.ensures.0 ∙ list-is (get_or a.m.now a.at 0) (two_at a.m.now (a.at + 2)) (four_at a.m.now (a.at + 4)) c.if-kind-eq-LIST.true (omega (arith, c.read_u16-len.ensures))

pub returns-else-len-le-MAX_CHILDREN : goal.returns-else-len-le-MAX_CHILDREN
returns-else-len-le-MAX_CHILDREN c = let a = c.args in list-long (get_or a.m.now a.at 0) (two_at a.m.now (a.at + 2)) (four_at a.m.now (a.at + 4)) c.if-kind-eq-LIST.true (omega (arith, c.read_u16-len.ensures))

pub returns-else-kind-eq-LIST : goal.returns-else-kind-eq-LIST
returns-else-kind-eq-LIST c = let a = c.args in no_kind (get_or a.m.now a.at 0) (two_at a.m.now (a.at + 2)) (four_at a.m.now (a.at + 4)) (above (get_or a.m.now a.at 0) c.if-kind-eq-FREE.false c.if-kind-eq-LEAF.false c.if-kind-eq-LIST.false)
