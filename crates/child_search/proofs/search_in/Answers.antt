-- `search_in` meets its contract: the slot is there, and what is asked for is sought among the entries that it has.
use Rattle.answer.proofs.Opened.{raised, passed}
use mathlib.Core.Path.{◌≡◌, subst}
use Prim.Native.Nat.{ℕ}
use Rattle.answer.specs.Answers.{Answer, outcome}
use Rattle.text_info.specs.declared.TextSum.{TextSum}
use Rattle.child_search.specs.Sought.{searched_in, Small}
use native.Mathlib.Omega.{arith}
use Rattle.child_search.proofs.Walk.{in-none, in-refused, in-inside, in-past, in-long, in-few}
use Rattle.child_search.proofs.search_in.Goals as goal

pub returns-then-n-eq0 : goal.returns-then-n-eq0
returns-then-n-eq0 c = let a = c.args in (in-none a.m.now a.slot a.n a.by a.at c.if-n-eq0.true, tt)

pub seek_in-requires : goal.seek_in-requires
seek_in-requires c =
    let a = c.args in
    let r = c.region_start in
    (in-inside a.m.now a.slot a.n a.by a.at r.result r.ensures _ c.in_ok-region_start.was, omega arith, omega arith)

pub returns-in_err-found : goal.returns-in_err-found
returns-in_err-found c =
    let a = c.args in
    let r = c.region_start in
    let there = in-inside a.m.now a.slot a.n a.by a.at r.result r.ensures _ c.in_ok-region_start.was in
    let f = c.seek_in in
    rw (passed c.in_err-found.was c.from_residual-in_err-found.ensures.1) (in-past a.m.now a.slot a.n a.by a.at _ c.held.ensures (omega arith) there f.result f.ensures.0 _ c.in_err-found.was, f.ensures.1)

pub returns-then-n-gt-MAX_LEN : goal.returns-then-n-gt-MAX_LEN
returns-then-n-gt-MAX_LEN c =
    let a = c.args in
    let r = c.region_start in
    let there = in-inside a.m.now a.slot a.n a.by a.at r.result r.ensures _ c.in_ok-region_start.was in
    let f = c.seek_in in
    (in-long a.m.now a.slot a.n a.by a.at _ c.held.ensures (omega arith) there f.result f.ensures.0 _ _ c.in_ok-found.was c.if-n-gt-MAX_LEN.true, tt)

pub returns-in_err-region_start : goal.returns-in_err-region_start
returns-in_err-region_start c = rw (raised c.from_residual.ensures.1) (
    let a = c.args in
    let r = c.region_start in
    (in-refused a.m.now a.slot a.n a.by a.at r.result r.ensures _ (omega arith) c.in_err-region_start.was, tt))

pub returns : goal.returns
returns c =
    let a = c.args in
    let r = c.region_start in
    let there = in-inside a.m.now a.slot a.n a.by a.at r.result r.ensures _ c.in_ok-region_start.was in
    let f = c.seek_in in
    subst (λ (x : Answer (ℕ × TextSum)). (outcome x ≡ searched_in a.m.now a.slot a.n a.by a.at) × Small x) c.in_ok-found.was (in-few a.m.now a.slot a.n a.by a.at _ c.held.ensures (omega arith) there f.result f.ensures.0 _ _ c.in_ok-found.was c.if-n-gt-MAX_LEN.false, f.ensures.1)
