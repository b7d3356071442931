-- `run` meets its contract: so many turns are taken as the loop has made.
use mathlib.Core.Path.{◌≡◌, refl, subst, ◌∙◌}
use Prim.Native.Nat.{◌+◌, ◌-◌, ◌^◌}
use native.Mathlib.Omega.{arith}
use Rattle.std.proofs.lemmas.Result.{err_from_is_err_and}
use Rattle.demands.proofs.Bridge.{open-starts}
use Rattle.plain_journal.specs.Replay.{slots}
use Rattle.recorder.specs.Program.{Running}
use Rattle.recorder.proofs.Laws.{start-runs, start-accepted, pumps-on, pumps-failed}
use Rattle.recorder.proofs.run.Goals as goal

pub returns-in_default : goal.returns-in_default
returns-in_default g c =
    let s = c.start in
    absurd (start-accepted c.args.m.now s.new.m s.result _ s.ensures c.requires.0 c.in_default.is)

pub loop-turn-init : goal.loop-turn-init
loop-turn-init g c =
    let a = c.args in
    let s = c.start in
    let o = open-starts a.m.now slots s.result s.new.m s.ensures c.in-Ok.is in
    (start-runs s.new.m a.buf.now c.started-st.result o.0 o.1 c.started-st.ensures, refl, refl, refl)

pub pump-requires : goal.pump-requires
pump-requires g c =
    let L = c.loop-turn in
    let pre = c.requires in
    ((L._turn, L.invariant.0), c.if-st.false, omega (arith, L.invariant.2, pre.1), omega (arith, L.invariant.3, pre.2))

pub loop-turn-preserved : goal.loop-turn-preserved
loop-turn-preserved g c =
    let L = c.loop-turn in
    let p = c.pump in
    (pumps-on L.m p.new.m L.buf p.new.buf L.st p.result _ p.ensures c.in_ok-st.was L._turn L.invariant.0, p.auto.m ∙ L.invariant.1, p.auto.buf ∙ L.invariant.2, p.auto.out ∙ L.invariant.3)

pub returns-then-st : goal.returns-then-st
returns-then-st g c =
    let L = c.loop-turn in
    (L.st, L._turn, L.invariant.0, c.if-st.true)

pub returns-in_err-st : goal.returns-in_err-st
returns-in_err-st g c =
    let L = c.loop-turn in
    let p = c.pump in
    let e = err_from_is_err_and c.from_residual.result c.from_residual.ensures.1 in
    rw (e.1, e.2) (L.m, L.buf, L.st, L._turn, L.invariant.0, c.if-st.false, pumps-failed L.m p.new.m L.buf p.new.buf L.st p.result _ p.ensures c.in_err-st.was)

pub returns-then-st-2 : goal.returns-then-st-2
returns-then-st-2 g c =
    let L = c.loop-turn in
    (L.st, L._turn, L.invariant.0, c.if-st-2.true)

pub returns-else-st-2 : goal.returns-else-st-2
returns-else-st-2 g c =
    let L = c.loop-turn in
    let all : L._turn ≡ 2 ^ 64 - 1 = omega arith in
    (L.st, subst (Running L.m L.buf L.st) all L.invariant.0, c.if-st-2.false)
