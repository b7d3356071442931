-- `chars::from_byte_idx` meets its contract: the chars of the bytes up to the floor.
use mathlib.Core.Path.{sym, ap, ◌∙◌}
use Prim.Native.Nat.{ℕ}
use lib.ListN.{take}
use lib.Seq.{length-take-le}
use Rattle.plain.specs.Count.{count_if}
use Rattle.plain.specs.Place.{is_start}
use Rattle.str_indices.proofs.chars.from_byte_idx.Goals as goal

pub slice_bounds-count-end : goal.slice_bounds-count-end
slice_bounds-count-end c = sym (length-take-le _ _ c.floor-i.ensures.1)

pub returns : goal.returns
returns c =
    let text = c.args.text.now in
    c.count.ensures ∙ ap (λ (n : ℕ). count_if is_start (take n text)) c.floor-i.ensures.0
