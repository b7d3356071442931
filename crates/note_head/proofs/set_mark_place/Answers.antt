-- `set_mark_place` meets its contract: a number written.
use mathlib.Core.Path.{◌≡◌, refl, ap, ◌∙◌}
use Prim.Native.Nat.{ℕ, ◌+◌, ◌*◌}
use native.Mathlib.Omega.{arith}
use Rattle.pool.proofs.Rules.{wrote-refused, wrote-done}
use Rattle.note_head.specs.Writes.{number_put, place_put, place_set}
use Rattle.note_head.proofs.Laid.{mark-short, mark-none, mark-it}
use Rattle.note_head.proofs.set_mark_place.Goals as goal

pub returns-then-m-lt-HEAD_BYTES : goal.returns-then-m-lt-HEAD_BYTES
unfolding place_set
returns-then-m-lt-HEAD_BYTES c = let a = c.args in wrote-refused _ _ _ 2 (mark-short a.m.now a.k (place_put a.m.now a.k a.place) (omega arith)) refl

pub returns-then-k-ge-MARKS : goal.returns-then-k-ge-MARKS
unfolding place_set
returns-then-k-ge-MARKS c = let a = c.args in wrote-refused _ _ _ 7 (mark-none a.m.now a.k (place_put a.m.now a.k a.place) (omega arith) (omega arith)) refl

pub returns : goal.returns
unfolding place_set
returns c =
    let a = c.args in
    let z : (k : ℕ) → 2052 + 16 * k ≡ 2048 + 16 * k + 4 = λ k. omega arith in
    wrote-done _ _ _ _ _ (mark-it a.m.now a.k (place_put a.m.now a.k a.place) (omega arith) (omega arith)) refl
    (c.put_number.ensures ∙ ap (λ (p : ℕ). number_put a.m.now p a.place) (z a.k))
