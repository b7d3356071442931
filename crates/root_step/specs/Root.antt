-- What became of the root, put into the memory's head: the answer, and every byte afterwards. Where the memory is broken a step may be refused
-- behind one that was done; in a sound one none is.
use Rattle.std.specs.Prelude.{Bool, not, ◌&&◌, cond, List, [], ◌∷◌, ℕ, ◌+◌, ◌-◌, eqb, get_or}
use Rattle.plain.specs.Outcome.{Outcome, Outcome.value, Outcome.refused, ruled, past}
use Rattle.text_info.specs.declared.TextInfo.{TextInfo}
use Rattle.pool.specs.declared.Kid.{Kid}
use Rattle.pool.specs.Slot.{len_of, no_kid}
use Rattle.node_children.specs.Kids.{list_of}
use Rattle.nodes.specs.Node.{is_list, children_of, too_wide, narrowed, total_of, list_put}
use Rattle.note_head.specs.Head.{root_of, height_of}
use Rattle.note_head.specs.Writes.{no_head, root_put, height_put}
use Rattle.edit_steps.specs.Made.{Made, Made.same, Made.split, Made.small, Made.apart}
use Rattle.edit_steps.specs.Acts.{Act, reading}
use Rattle.edit_steps.specs.Grown.{kid}
use Rattle.free_slots.specs.Slots.{taken, given}

-- the memory whose root is the node k of height h: 2 where it has no head
unfoldable pub top_put : List ℕ → Kid → ℕ → Act (Unit {0})
unfolding ruled
top_put m k h = reading m (ruled (no_head m ∷ []) (height_put (root_put m k) h)) (λ l. (value tt, l))

-- ── a root that was parted ──

-- a list in the first free slot above the two, where their counts have 32 bits
unfoldable pub raised : List ℕ → List Kid → ℕ → Act (Unit {0})
unfolding taken top_put list_of
raised m ks h =
    cond (too_wide (total_of ks)) (refused 2, m)
    (reading m (taken m) (λ t. top_put (list_put t.1 t.0 (list_of ks)) (kid t.0 (narrowed (total_of ks))) (h + 1)))

-- 2 also for a slot that 32 bits do not name, and for a tree that is as high as one byte tells
unfoldable pub grown : List ℕ → Kid → ℕ → TextInfo → Act (Unit {0})
unfolding raised
grown m left v other = cond (past v 4294967295) (refused 2, m) (cond (eqb (height_of m) 255) (refused 2, m) (raised m (left ∷ kid v other ∷ []) (height_of m)))

-- ── a root below a child's least size ──

-- a list of one child
unfoldable pub only : List ℕ → ℕ → Bool
unfolding is_list
only m s = not (eqb (height_of m) 0) && (is_list m s && eqb (len_of m s) 1)

-- in a tree of height h: the child takes its place, and its slot is free
unfoldable pub gave_way : List ℕ → ℕ → Kid → ℕ → Act (Unit {0})
unfolding given top_put
gave_way m s child h = reading m (given m s) (λ l. top_put l child (h - 1))

-- any other root stays, with these counts
unfoldable pub shrunk : List ℕ → ℕ → TextInfo → Act (Unit {0})
unfolding only gave_way top_put
shrunk m s info = cond (only m s) (gave_way m s (get_or (children_of m s) 0 no_kid) (height_of m)) (top_put m (kid s info) (height_of m))

-- ── the call: the head stays as it is where nothing was made ──

unfoldable pub rooted : List ℕ → Made → Act (Unit {0})
unfolding grown shrunk top_put
rooted m (same info) = top_put m (kid (root_of m).slot info) (height_of m)
rooted m (split info v other) = grown m (kid (root_of m).slot info) v other
rooted m (small info) = shrunk m (root_of m).slot info
rooted m apart = (value tt, m)

-- the same of an edit that may have been refused
abbrev pub rooted_by : List ℕ → Outcome Made → Act (Unit {0})
rooted_by m o = reading m o (rooted m)
