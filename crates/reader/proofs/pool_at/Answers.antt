-- `pool_at` meets its contract: empty where the run is refused, else the memory as it was lent.
use Rattle.reader.proofs.Rules.{pool-none, pool-some}
use Rattle.reader.proofs.pool_at.Goals as goal

pub returns-in_default : goal.returns-in_default
returns-in_default c =
    let a = c.args in
    pool-none a.m.now a.p c.run_refusal.result c.run_refusal.ensures _ c.in_default.is

pub returns : goal.returns
returns c =
    let a = c.args in
    pool-some a.m.now a.p c.run_refusal.result c.run_refusal.ensures c.in-Ok.is
