-- What one step of an edit in a leaf comes to: its answer, and every byte afterwards. Counts are counted over the bytes, be they text or not.
use Rattle.std.specs.Prelude.{Bool, ◌&&◌, cond, List, ℕ, ◌+◌, eqb, length}
use Rattle.plain.specs.Outcome.{Outcome, Outcome.refused, past, mapped}
use Rattle.text_info.specs.Info.{raw_info}
use Rattle.pool.specs.Slot.{len_of, next_of}
use Rattle.nodes.specs.Node.{is_leaf, leaf_put}
use Rattle.nodes.specs.Calls.{leaf_replaced, leaf_halved}
use Rattle.note_head.specs.Head.{free_of}
use Rattle.note_head.specs.Writes.{number_put}
use Rattle.free_slots.specs.Slots.{no_free}
use Rattle.edit_steps.specs.Made.{Made, Made.split, sized}

-- a leaf with another text
abbrev pub one_leaf : List ℕ → ℕ → List ℕ → Made × List ℕ
one_leaf m s t = (sized 128 (length t) (raw_info t), leaf_put m s t)

-- two leaves, the second in the slot u, behind which the chain of free slots goes on at v
abbrev pub two_leaves : List ℕ → ℕ → ℕ → ℕ → List ℕ × List ℕ → Made × List ℕ
two_leaves m s u v t =
    (split (raw_info t.0) u (raw_info t.1), number_put (leaf_put (leaf_put m s t.0) u t.1) 32 v)

-- [i, e) of the leaf gives way to a piece: that the bytes are text is not asked
unfoldable pub leaf_fit : List ℕ → ℕ → ℕ → ℕ → List ℕ → Outcome (Made × List ℕ)
leaf_fit m s i e piece = mapped (one_leaf m s) (leaf_replaced m s i e piece)

-- a piece put in at i, and the whole parted; the right side goes to the slot u
unfoldable pub leaf_halves : List ℕ → ℕ → ℕ → List ℕ → ℕ → ℕ → Outcome (Made × List ℕ)
leaf_halves m s i piece u v = mapped (two_leaves m s u v) (leaf_halved m s i piece u)

-- the slot is the first free one: 2 where there is none
unfoldable pub leaf_split : List ℕ → ℕ → ℕ → List ℕ → Outcome (Made × List ℕ)
leaf_split m s i piece = cond (no_free m (free_of m)) (refused 2) (leaf_halves m s i piece (free_of m) (next_of m (free_of m)))

-- an insertion into a leaf that has no room for it
abbrev pub overfull : List ℕ → ℕ → ℕ → ℕ → List ℕ → Bool
overfull m s i e piece = eqb i e && past (length piece + len_of m s) 512

-- 2: the slot is no leaf
unfoldable pub leaf_stepped : List ℕ → ℕ → ℕ → ℕ → List ℕ → Outcome (Made × List ℕ)
leaf_stepped m s i e piece = cond (is_leaf m s) (cond (overfull m s i e piece) (leaf_split m s i piece) (leaf_fit m s i e piece)) (refused 2)
