use mathlib.Core.Path.{◌≡◌, sym}
use native.Mathlib.Omega.{arith}
use lib.ListN.{length}
use lib.Seq.{length-take-le}
use Rattle.recorder.proofs.Laws.{taken_is, refused-is, turn-runs, read-runs}
use Rattle.recorder.proofs.pump.Goals as goal

pub returns-in_default : goal.returns-in_default
returns-in_default g c =
    let a = c.args in
    let t = c.turn in
    refused-is a.m.now t.new.m a.buf.now t.new.buf a.out.now t.new.out a.st _ t.result c.requires.0.0 c.requires.0.1 c.requires.3 t.ensures c.in_default.is

pub slice_bounds-write_all-end : goal.slice_bounds-write_all-end
slice_bounds-write_all-end g c =
    let a = c.args in
    let t = c.turn in
    let r = c.in-Ok.r in
    let v = taken_is a.m.now t.new.m a.buf.now t.new.buf a.out.now t.new.out a.st r t.result t.ensures c.in-Ok.is c.requires.1 in
    let ol : length t.new.out ≡ length a.out.now = t.auto.out in
    omega (arith, v.put-le)

pub slice_bounds-write_all-end-2 : goal.slice_bounds-write_all-end-2
slice_bounds-write_all-end-2 g c =
    let a = c.args in
    let t = c.turn in
    let r = c.in-Ok.r in
    let v = taken_is a.m.now t.new.m a.buf.now t.new.buf a.out.now t.new.out a.st r t.result t.ensures c.in-Ok.is c.requires.1 in
    let ol : length t.new.out ≡ length a.out.now = t.auto.out in
    sym (length-take-le r.put t.new.out (omega (arith, v.put-le)))

pub returns-then-is_err : goal.returns-then-is_err
returns-then-is_err g c =
    let a = c.args in
    let t = c.turn in
    let r = c.in-Ok.r in
    let v = taken_is a.m.now t.new.m a.buf.now t.new.buf a.out.now t.new.out a.st r t.result t.ensures c.in-Ok.is c.requires.1 in
    (a.out.now, t.new.out, r, v)

pub returns-then-r : goal.returns-then-r
returns-then-r g c =
    let a = c.args in
    let t = c.turn in
    let r = c.in-Ok.r in
    let v = taken_is a.m.now t.new.m a.buf.now t.new.buf a.out.now t.new.out a.st r t.result t.ensures c.in-Ok.is c.requires.1 in
    turn-runs a.m.now t.new.m a.buf.now t.new.buf a.out.now t.new.out a.st r c.requires.1 v t.auto.buf

pub returns-then-r-fill : goal.returns-then-r-fill
returns-then-r-fill g c =
    let a = c.args in
    let t = c.turn in
    let r = c.in-Ok.r in
    let v = taken_is a.m.now t.new.m a.buf.now t.new.buf a.out.now t.new.out a.st r t.result t.ensures c.in-Ok.is c.requires.1 in
    turn-runs a.m.now t.new.m a.buf.now t.new.buf a.out.now t.new.out a.st r c.requires.1 v t.auto.buf

pub read_more-requires : goal.read_more-requires
read_more-requires g c =
    let a = c.args in
    let t = c.turn in
    let r = c.in-Ok.r in
    let v = taken_is a.m.now t.new.m a.buf.now t.new.buf a.out.now t.new.out a.st r t.result t.ensures c.in-Ok.is c.requires.1 in
    let bl : length t.new.buf ≡ length a.buf.now = t.auto.buf in
    omega (arith, (v.starves c.if-r.false (omega (arith, v.fill-le, c.if-r-fill.false))).1, c.requires.2)

pub returns : goal.returns
returns g c =
    let a = c.args in
    let t = c.turn in
    let r = c.in-Ok.r in
    let v = taken_is a.m.now t.new.m a.buf.now t.new.buf a.out.now t.new.out a.st r t.result t.ensures c.in-Ok.is c.requires.1 in
    let m = c.read_more in
    read-runs a.m.now t.new.m a.buf.now t.new.buf a.out.now t.new.out a.st r c.requires.1 v t.auto.buf m.new.buf m.result c.if-r.false (omega (arith, v.fill-le, c.if-r-fill.false)) m.ensures
