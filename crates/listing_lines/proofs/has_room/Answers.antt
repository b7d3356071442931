use mathlib.Core.Path.{sym}
use Prim.Native.Nat.{◌+◌, ◌-◌}
use native.Mathlib.Omega.{arith}
use borrow.Author.Tests.{lt-leb}
use lib.ListN.{length}
use Rattle.listing_lines.proofs.Laws.{leb-leb}
use Rattle.listing_lines.proofs.has_room.Goals as goal

pub returns-then-out-n : goal.returns-then-out-n
returns-then-out-n c = sym (lt-leb (c.args.at + c.args.n) (length c.args.out.now) (omega arith))

pub returns : goal.returns
returns c = leb-leb c.args.at (length c.args.out.now - c.args.n) (c.args.at + c.args.n) (length c.args.out.now) (λ h. omega arith) (λ h. omega arith)
