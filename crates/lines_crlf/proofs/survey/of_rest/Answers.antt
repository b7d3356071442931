-- `survey::of_rest` meets its contract. The loop's invariant: the highest of the bytes passed; and from the first byte that counts on, what
-- has been counted, with what is still to come, is the count from there on.
use mathlib.Core.Path.{◌≡◌, ap, subst}
use Prim.Native.Nat.{ℕ, ◌+◌}
use native.Mathlib.Omega.{arith}
use lib.ListN.{drop}
use Rattle.plain.specs.Count.{breaks}
use Rattle.plain.proofs.Count.{break-turn}
use Rattle.plain.proofs.Logic.{cut}
use Rattle.lines_crlf.specs.Surveyed.{Tops}
use Rattle.lines_crlf.proofs.Tops.{tops-none, tops-more}
use Rattle.lines_crlf.proofs.survey.of_rest.Goals as goal

pub loop-i-init : goal.loop-i-init
loop-i-init c =
    let a = c.args in
    (omega arith, omega arith, omega arith, λ h. let e : a.base ≡ a.base + a.s = omega arith in omega (arith, ap (λ (j : ℕ). breaks (drop j a.text.now)) e), tops-none _ _)

pub loop-i-preserved : goal.loop-i-preserved
loop-i-preserved c =
    let text = c.args.text.now in
    let base = c.args.base in
    let s = c.args.s in
    let i = c.loop-i.i in
    let k = c.loop-i.k in (
      omega arith,
      omega arith,
      cut k s (λ h. omega (arith, c.from_on-n.ensures.0 h)) (λ h. omega (arith, c.from_on-n.ensures.1 h, c.ended.ensures.1)),
      λ g. cut k s
          (λ h. let e : i + 1 ≡ base + s = omega arith in omega (arith, c.from_on-n.ensures.0 h, ap (λ (j : ℕ). breaks (drop j text)) e))
          (λ h. omega (arith, c.from_on-n.ensures.1 h, c.ended.ensures.0, c.loop-i.invariant.3 h, break-turn text i (omega arith))),
      tops-more text base i c.loop-i.high c.higher-high.result (omega arith) c.loop-i.invariant.4 c.higher-high.ensures,
    )

pub returns : goal.returns
returns c =
    let text = c.args.text.now in
    let l = c.loop-i in
    let i : l.i ≡ c.args.base + 32 = omega arith in
    (subst (λ (j : ℕ). Tops text c.args.base j l.high) i l.invariant.4, omega (arith, l.invariant.3 (omega arith), ap (λ (j : ℕ). breaks (drop j text)) i), omega arith)
