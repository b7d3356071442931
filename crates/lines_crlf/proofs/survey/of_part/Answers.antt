-- `survey::of_part` meets its contract. The loop's invariant: the highest of the bytes passed, and what has been counted, with what is still to come, is
-- the count from a on.
use mathlib.Core.Path.{◌≡◌, ap, subst}
use Prim.Native.Nat.{ℕ}
use native.Mathlib.Omega.{arith}
use lib.ListN.{drop}
use Rattle.plain.specs.Count.{breaks}
use Rattle.plain.proofs.Count.{break-turn}
use Rattle.lines_crlf.specs.Surveyed.{Tops}
use Rattle.lines_crlf.proofs.Tops.{tops-none, tops-more}
use Rattle.lines_crlf.proofs.survey.of_part.Goals as goal

pub loop-i-init : goal.loop-i-init
loop-i-init c = (omega arith, omega arith, omega arith, omega arith, tops-none _ _)

pub loop-i-preserved : goal.loop-i-preserved
loop-i-preserved c =
    let text = c.args.text.now in
    let a = c.args.a in
    let i = c.loop-i.i in (
      omega arith,
      omega arith,
      omega arith,
      omega (arith, break-turn text i (omega arith)),
      tops-more text a i c.loop-i.high c.higher-high.result (omega arith) c.loop-i.invariant.4 c.higher-high.ensures,
    )

pub returns : goal.returns
returns c =
    let text = c.args.text.now in
    let i : c.loop-i.i ≡ c.args.e = omega arith in
    (subst (λ (j : ℕ). Tops text c.args.a j c.loop-i.high) i c.loop-i.invariant.4, omega (arith, ap (λ (k : ℕ). breaks (drop k text)) i), omega arith)
