-- `live_bytes` meets its contract: each turn adds one byte.
use Rattle.std.proofs.Common.{◌≡◌, ◌*◌, ◌≤◌}
use Rattle.marks.specs.MarkBytes.{live_bytes}
use Rattle.marks.proofs.live_bytes.Given as goal

abbrev pub invariant-loop-j : goal.invariant-loop-j
invariant-loop-j l = (l.all ≤ 255 * l.j) × (l.all ≡ live_bytes l.m l.k l.j)
