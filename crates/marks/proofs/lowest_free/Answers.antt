-- `lowest_free` meets its contract: the marks that were passed are live.
use Rattle.std.proofs.Common.{◌≡◌, ℕ, suc, ◌+◌, ◌-◌, ap, arith}
use Rattle.plain_calls.specs.Marks.{lowest}
use Rattle.note_head.specs.Head.{marks_from}
use Rattle.marks.proofs.Rules.{lowest-here, lowest-next, lowest-none}
use Rattle.marks.proofs.lowest_free.Goals as goal

pub loop-k-init : goal.loop-k-init
loop-k-init c = (omega arith, omega arith)

pub returns-then-mark_live-ne1 : goal.returns-then-mark_live-ne1
returns-then-mark_live-ne1 c =
    let m = c.args.m.now in
    let k = c.loop-k.k in
    let z : 256 - k ≡ suc (255 - k) = omega arith in
    omega (arith, ap (λ (i : ℕ). lowest (marks_from m k i)) z, lowest-here m k (255 - k) (λ e. omega arith))

pub loop-k-preserved : goal.loop-k-preserved
loop-k-preserved c =
    let m = c.args.m.now in
    let k = c.loop-k.k in
    let z : 256 - k ≡ suc (255 - k) = omega arith in
    let y : 255 - k ≡ 256 - (k + 1) = omega arith in
    let x : suc k ≡ k + 1 = omega arith in (
      omega arith,
      omega (
        arith,
        ap (λ (i : ℕ). lowest (marks_from m k i)) z,
        lowest-next m k (255 - k) (omega arith),
        ap (λ (i : ℕ). lowest (marks_from m (suc k) i)) y,
        ap (λ (i : ℕ). lowest (marks_from m i (256 - (k + 1)))) x,
      ),
    )

pub returns : goal.returns
returns c =
    let m = c.args.m.now in
    let k = c.loop-k.k in
    let z : 256 - k ≡ 0 = omega arith in
    omega (arith, ap (λ (i : ℕ). lowest (marks_from m k i)) z, lowest-none m k)
