use Prim.Native.Nat.{◌+◌, ◌≤◌}
use mathlib.Core.Path.{◌≡◌}
use native.Mathlib.Omega.{arith}
use lib.ListN.{length, take}
use lib.Seq.{length-take-le}
use Rattle.plain_journal.proofs.Framing.{fields_le}
use Rattle.journal.proofs.Turns.{served-ended, starved, served-last, served-on}
use Rattle.journal.proofs.serve.Goals as goal

pub returns-then-r : goal.returns-then-r
returns-then-r c =
    let a = c.args in
    let f = c.whole_fields-r in
    let ol : length f.new.out ≡ length a.out.now = f.auto.out in
    let p = c.put_ending-p in
    let room : f.result.put + 20590 ≤ length f.new.out = omega (arith, f.ensures.room) in
    let e = (p.ensures.0 f.ensures.does.left.formed).0 room in
    served-ended a.m.now f.new.m a.buf.now a.out.now f.new.out a.k a.last f.result f.ensures p.new.out p.result c.if-r.true (e.0, e.1.1)

pub finish-requires : goal.finish-requires
finish-requires c =
    let a = c.args in
    let f = c.whole_fields-r in
    let ol : length f.new.out ≡ length a.out.now = f.auto.out in
    let none = c.if-used-eq0.true in (
      f.ensures.does.left.formed,
      omega (arith, f.ensures.room),
      (starved a.m.now f.new.m a.buf.now a.out.now f.new.out a.k a.last f.result f.ensures c.if-r.false none (omega arith)).0,
      omega (arith, none, f.ensures.does.count, fields_le (take f.result.used a.buf.now), length-take-le f.result.used a.buf.now f.ensures.used_le, c.requires.1),
    )

pub returns-then-used-eq0 : goal.returns-then-used-eq0
returns-then-used-eq0 c =
    let a = c.args in
    let f = c.whole_fields-r in
    let ol : length f.new.out ≡ length a.out.now = f.auto.out in
    let p = c.finish in
    let none = c.if-used-eq0.true in
    served-last a.m.now f.new.m a.buf.now a.out.now f.new.out a.k a.last f.result f.ensures p.new.out p.result c.requires.0
    (starved a.m.now f.new.m a.buf.now a.out.now f.new.out a.k a.last f.result f.ensures c.if-r.false none c.requires.2).0
    none c.if-last.true p.ensures

pub returns-else-used-eq0 : goal.returns-else-used-eq0
returns-else-used-eq0 c =
    let a = c.args in
    let f = c.whole_fields-r in
    let ol : length f.new.out ≡ length a.out.now = f.auto.out in
    served-on a.m.now f.new.m a.buf.now a.out.now f.new.out a.k a.last f.result f.ensures c.if-r.false (omega arith) (λ u. absurd (c.if-used-eq0.false u))

pub returns-else-last : goal.returns-else-last
returns-else-last c =
    let a = c.args in
    let f = c.whole_fields-r in
    let ol : length f.new.out ≡ length a.out.now = f.auto.out in
    served-on a.m.now f.new.m a.buf.now a.out.now f.new.out a.k a.last f.result f.ensures c.if-r.false (omega arith) (λ u. c.if-last.false)
