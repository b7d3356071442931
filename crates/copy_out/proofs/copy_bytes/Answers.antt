-- `copy_bytes` meets its contract. The loop's invariant: the bytes [a, i) lie at the front of the output.
use mathlib.Core.Path.{◌≡◌, refl, ap, ◌∙◌}
use Prim.Native.Nat.{ℕ, ◌-◌}
use native.Mathlib.Omega.{arith}
use lib.ListN.{length, take, drop}
use Rattle.plain.specs.Chars.{encode}
use Rattle.octets.proofs.Over.{overlaid-length}
use Rattle.leaf_bytes.specs.Leaf.{laid}
use Rattle.memory.specs.Formed.{note_of}
use Rattle.copy_out.proofs.Copied.{steps, copied_none, copied_more}
use Rattle.copy_out.proofs.copy_bytes.Goals as goal

pub loop-i-init : goal.loop-i-init
loop-i-init c =
    let a = c.args in
    (omega arith, c.requires.1, copied_none a.out.now (encode (note_of a.m.now).text) a.a, refl)

pub upto-part-requires : goal.upto-part-requires
upto-part-requires c = omega arith

pub overflow_sub-i : goal.overflow_sub-i
overflow_sub-i c = omega (arith, c.loop-i.invariant.0)

pub put-requires : goal.put-requires
put-requires c =
    let a = c.args in
    let st = steps a.m.now c.requires.0 c.loop-i.i a.b c.loop-i-test.true c.requires.2 _ c.upto-part.ensures in
    omega (arith, st.room, c.loop-i.invariant.0, c.loop-i.invariant.3, c.requires.3)

pub overflow_add-i : goal.overflow_add-i
overflow_add-i c =
    let a = c.args in
    let st = steps a.m.now c.requires.0 c.loop-i.i a.b c.loop-i-test.true c.requires.2 _ c.upto-part.ensures in
    omega (arith, st.room)

pub loop-i-smaller : goal.loop-i-smaller
loop-i-smaller c =
    let a = c.args in
    let st = steps a.m.now c.requires.0 c.loop-i.i a.b c.loop-i-test.true c.requires.2 _ c.upto-part.ensures in
    omega (arith, st.some, st.room)

pub loop-i-preserved : goal.loop-i-preserved
loop-i-preserved c =
    let a = c.args in
    let bs = encode (note_of a.m.now).text in
    let inv = c.loop-i.invariant in
    let st = steps a.m.now c.requires.0 c.loop-i.i a.b c.loop-i-test.true c.requires.2 _ c.upto-part.ensures in (
      omega (arith, inv.0),
      st.room,
      c.put.ensures ∙ copied_more a.out.now c.loop-i.out bs c.upto-part.result.now a.a c.loop-i.i inv.0 (omega (arith, st.room, c.requires.2)) inv.2 st.is,
      ap length c.put.ensures ∙ overlaid-length (c.loop-i.i - a.a) c.upto-part.result.now c.loop-i.out (omega (arith, st.room, inv.0, inv.3, c.requires.3)) ∙ inv.3,
    )

pub shape_of-out : goal.shape_of-out
shape_of-out c = c.loop-i.invariant.3

pub returns : goal.returns
returns c =
    let a = c.args in
    let z : c.loop-i.i ≡ a.b = omega (arith, c.loop-i.invariant.1) in
    c.loop-i.invariant.2 ∙ ap (λ (k : ℕ). laid a.out.now (take (k - a.a) (drop a.a (encode (note_of a.m.now).text)))) z
