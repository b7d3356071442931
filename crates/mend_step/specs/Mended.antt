-- What a list comes to when one of its children fell below its least size: that child and its neighbour joined, and every byte afterwards.
use Rattle.std.specs.Prelude.{Bool, true, false, not, List, [], ◌∷◌, ℕ, ◌+◌, ◌-◌, leb}
use Rattle.plain.specs.Outcome.{Outcome, ruled, kept, mapped}
use Rattle.text_info.specs.declared.TextInfo.{TextInfo}
use Rattle.pool.specs.Slot.{len_of}
use Rattle.node_children.specs.declared.NodeChildren.{NodeChildren}
use Rattle.node_children.specs.Kids.{kids, list_of}
use Rattle.nodes.specs.Node.{is_list, children_of}
use Rattle.child_info.specs.Kin.{slot_in}
use Rattle.merge.specs.Merge.{merging}
use Rattle.edit_steps.specs.Made.{Made, sized}
use Rattle.free_slots.specs.Slots.{given}
use Rattle.list_step.specs.Steps.{and_then}

-- the list in slot p, where it has a child behind the one at i
unfoldable pub paired : List ℕ → ℕ → ℕ → Outcome NodeChildren
unfolding ruled is_list list_of
paired m p i = ruled ((2, not (is_list m p)) ∷ (3, leb (len_of m p) (i + 1)) ∷ []) (list_of (children_of m p))

-- The list of n children when two were joined: merged, slot b of the second is given back, and the list has one child less. Its counts are
-- those that it had, as its text is.
abbrev pub closed : List ℕ → Bool → ℕ → ℕ → TextInfo → Made × List ℕ
closed m true b n info = (sized 4 (n - 1) info, kept m (given m b))
closed m false b n info = (sized 4 n info, m)

-- the children at i and behind it, of the list in slot p
unfoldable pub joining : List ℕ → ℕ → NodeChildren → ℕ → TextInfo → Outcome (Made × List ℕ)
unfolding merging given
joining m p c i info = mapped (λ t. closed t.1 t.0 (slot_in (kids c) (i + 1)) c.len info) (merging m p i (i + 1))

unfoldable pub mended : List ℕ → ℕ → ℕ → TextInfo → Outcome (Made × List ℕ)
unfolding paired joining
mended m p i info = and_then (paired m p i) (λ c. joining m p c i info)
