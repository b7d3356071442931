-- `from_byte_idx` meets its contract: past the end all breaks count.
use native.Mathlib.Omega.{arith}
use Rattle.plain.proofs.Count.{line-drop, break-end}
use Rattle.lines_crlf.proofs.from_byte_idx.Goals as goal

pub returns : goal.returns
returns c =
    let text = c.args.text.now in
    omega (arith, line-drop text c.args.byte_idx, break-end text c.args.byte_idx c.if-byte_idx-text.false)
