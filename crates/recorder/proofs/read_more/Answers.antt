-- `recorder::read_more` meets its contract: what the read gave lies behind what the buffer held.
use mathlib.Core.Path.{◌≡◌, ◌∙◌}
use Prim.Native.Nat.{◌-◌}
use native.Mathlib.Omega.{arith}
use borrow.Rule.Slice.PartMut.{mid_len, put_mid, same_len_mid, take_put}
use lib.ListN.{length}
use Rattle.recorder.proofs.Laws.{read_is}
use Rattle.recorder.proofs.read_more.Goals as goal

pub returns : goal.returns
returns g c =
    let a = c.args in
    let b = a.buf.now in
    let fill = a.st.fill in
    let n = c.in-Ok.n in
    let x = c.read.new.buf in
    let few : length x ≡ length b - fill = c.read.auto.buf ∙ mid_len fill (length b) b (omega arith) in
    let same : length (put_mid fill (length b - fill) b x) ≡ length b = same_len_mid fill (length b - fill) b x c.read.auto.buf in
    (omega arith, omega (arith, same, few, c.in-Ok.ensures.bound.0), take_put fill (length b - fill) b x (omega arith), read_is a.st fill n)
