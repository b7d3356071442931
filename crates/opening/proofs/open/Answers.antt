-- `open` meets its contract.
use mathlib.Core.Path.{refl}
use native.Mathlib.Omega.{arith}
use Rattle.answer.proofs.Opened.{never-refused}
use Rattle.pool.proofs.Rules.{wrote-refused, wrote-done}
use Rattle.opening.proofs.Laid.{head-set, head_never, opens-few, opens-many, opens-short, opens-it, opened-laid}
use Rattle.opening.proofs.open.Goals as goal

pub returns-then-n-lt-MIN_SLOTS : goal.returns-then-n-lt-MIN_SLOTS
returns-then-n-lt-MIN_SLOTS c = let a = c.args in wrote-refused _ _ _ 1 (opens-few a.m.now a.n (omega arith)) refl

pub returns-then-n-gt-MAX_SLOTS : goal.returns-then-n-gt-MAX_SLOTS
returns-then-n-gt-MAX_SLOTS c = let a = c.args in wrote-refused _ _ _ 1 (opens-many a.m.now a.n (omega arith)) refl

pub returns-then-m-n : goal.returns-then-m-n
returns-then-m-n c = let a = c.args in wrote-refused _ _ _ 1 (opens-short a.m.now a.n (omega arith)) refl

pub returns-in_err-put_head : goal.returns-in_err-put_head
returns-in_err-put_head c = never-refused _ _ tt c.put_head.ensures.0 c.in_err-put_head.was

pub returns-in_err-set_leaf : goal.returns-in_err-set_leaf
returns-in_err-set_leaf c = head_never _ 0 1 0 512 0 c.set_leaf.result _ c.set_leaf.ensures (omega arith) (omega arith) _ c.in_err-set_leaf.was

pub returns : goal.returns
returns c =
    let a = c.args in
    let m = a.m.now in
    let e = head-set _ 0 1 0 512 0 c.set_leaf.result _ c.set_leaf.ensures (omega arith) (omega arith) in
    wrote-done _ _ _ _ _ (opens-it m a.n (omega arith) (omega arith) (omega arith)) c.free_slots.ensures.0 (opened-laid m a.n _ _ _ c.put_head.ensures.1 e c.free_slots.ensures.1)
