-- `byte_at` meets its contract.
use mathlib.Core.Path.{sym}
use native.Mathlib.Omega.{arith}
use Rattle.octets.proofs.Past.{byte_past}
use Rattle.octets.proofs.byte_at.Goals as goal

pub returns : goal.returns
returns c = sym (byte_past c.args.m.now c.args.at (omega arith))
