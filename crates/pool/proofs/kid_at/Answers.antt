-- `kid_at` meets its contract.
use Rattle.pool.specs.Slot.{kid_at}
use Rattle.pool.proofs.kid_at.Goals as goal

pub returns : goal.returns
unfolding kid_at
returns c = rw (c.read_u32-slot.ensures, c.info_at-info.ensures)
