-- `survey::of_parts` meets its contract. The loop's invariant: the highest of the bytes passed, and the breaks counted, with those still to
-- come, are all breaks.
use mathlib.Core.Path.{◌≡◌, ap, subst}
use Prim.Native.Nat.{ℕ}
use native.Mathlib.Omega.{arith}
use lib.ListN.{drop}
use Rattle.plain.specs.Count.{breaks}
use Rattle.lines_crlf.specs.Surveyed.{Tops}
use Rattle.lines_crlf.proofs.Tops.{tops-none, tops-join}
use Rattle.lines_crlf.proofs.survey.of_parts.Goals as goal

pub loop-i-init : goal.loop-i-init
loop-i-init c = (omega arith, omega arith, omega arith, tops-none _ _)

pub loop-i-preserved : goal.loop-i-preserved
loop-i-preserved c =
    let part = c.of_part-p in (
      omega arith,
      omega arith,
      omega arith,
      tops-join c.args.text.now 0 c.loop-i.i c.loop-i.i c.stop-e.result c.loop-i.high part.result.high c.higher-high.result c.loop-i.invariant.3 part.ensures.0 (omega arith) c.higher-high.ensures,
    )

pub returns : goal.returns
returns c =
    let text = c.args.text.now in
    let e : c.loop-i.i ≡ c.args.end = omega arith in
    (subst (λ (j : ℕ). Tops text 0 j c.loop-i.high) e c.loop-i.invariant.3, omega (arith, ap (λ (k : ℕ). breaks (drop k text)) e), omega arith)
