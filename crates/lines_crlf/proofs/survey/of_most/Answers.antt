-- `survey::of_most` meets its contract: parts of 32 bytes, and the 32 at the end, of which those are counted that were not.
use mathlib.Core.Path.{◌≡◌, ap, subst}
use Prim.Native.Nat.{ℕ, ◌+◌, ◌-◌, ◌%◌}
use native.Mathlib.Omega.{arith}
use lib.ListN.{drop}
use Rattle.plain.specs.Count.{breaks}
use Rattle.lines_crlf.specs.Surveyed.{Tops}
use Rattle.lines_crlf.proofs.Tops.{tops-join}
use Rattle.lines_crlf.proofs.survey.of_most.Goals as goal

pub returns : goal.returns
returns c =
    let rest = c.of_rest-t in
    let parts = c.of_parts-s in
    let text = c.args.text.now in
    let last = c.args.last in
    let e : last - 32 + (32 - last % 32) ≡ last - last % 32 = omega arith in
    let f : last - 32 + 32 ≡ last = omega arith in
    let at : ℕ → ℕ = λ k. breaks (drop k text) in (
      tops-join text 0 (last - last % 32) (last - 32) last parts.result.high rest.result.high c.higher.result parts.ensures.0 (subst (λ (j : ℕ). Tops text (last - 32) j rest.result.high) f rest.ensures.0) (omega arith) c.higher.ensures,
      omega (arith, parts.ensures.1, rest.ensures.1, ap at e, ap at f),
      omega (arith, parts.ensures.2, rest.ensures.2),
    )
