-- `info_at` meets its contract.
use Rattle.pool.specs.Slot.{kid_at}
use Rattle.pool.proofs.info_at.Goals as goal

pub returns : goal.returns
unfolding kid_at
returns c = rw (c.read_u32.ensures, c.read_u32-2.ensures, c.read_u32-3.ensures, c.read_u32-4.ensures)
