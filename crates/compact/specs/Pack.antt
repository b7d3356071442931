-- Leaves packed into as few slots as hold them.
use Rattle.std.specs.Prelude.{Bool, ◌&&◌, cond, List, [], ◌∷◌, ◌++◌, ℕ, zero, suc, ◌+◌, ◌-◌, leb, ltb, length, take, drop}
use Rattle.plain.specs.Outcome.{Outcome, ruled}
use Rattle.crlf.specs.Break.{prev_break}
use Rattle.pool.specs.declared.Kid.{Kid}
use Rattle.node_children.specs.Kids.{list_of}
use Rattle.pool.specs.Slot.{len_of}
use Rattle.nodes.specs.Node.{is_leaf, text_of, children_of, leaf_put, list_put}
use Rattle.child_info.specs.Renewed.{renewed}
use Rattle.child_info.specs.Kin.{slot_in}
use Rattle.child_info.specs.Calls.{all_rules}

-- two neighbours with the texts a and b: whether the left one holds both; where it does not, it is filled up to the last break that has
-- room, and what is left stays in the right one
abbrev pub fits : List ℕ → List ℕ → Bool
fits a b = leb (length a + length b) 512

abbrev pub moved : List ℕ → List ℕ → ℕ
moved a b = prev_break b (512 - length a)

abbrev pub filled : List ℕ → ℕ → ℕ → List ℕ → List ℕ → ℕ → List ℕ
filled m l r a b k = leaf_put (leaf_put m l (a ++ take k b)) r (drop k b)

abbrev pub packed_text : List ℕ → ℕ → ℕ → List ℕ → List ℕ → List ℕ
packed_text m l r a b = cond (fits a b) (leaf_put m l (a ++ b)) (cond (ltb (length a) 512) (filled m l r a b (moved a b)) m)

unfoldable pub packed : List ℕ → ℕ → ℕ → List ℕ
packed m l r = packed_text m l r (text_of m l) (text_of m r)

-- the leaf l and those behind it, from left to right: the memory, and the children that are left
unfoldable pub packed_from : List ℕ → Kid → List Kid → List ℕ × List Kid
packed_from m l [] = (m, l ∷ [])
packed_from m l (r ∷ rs) =
    cond (fits (text_of m l.slot) (text_of m r.slot)) (packed_from (packed m l.slot r.slot) l rs)
    (let rest = packed_from (packed m l.slot r.slot) r rs in (rest.0, l ∷ rest.1))

abbrev pub packed_all : List ℕ → List Kid → List ℕ × List Kid
packed_all m [] = (m, [])
packed_all m (k ∷ ks) = packed_from m k ks

-- n entries from i on counted anew
unfoldable pub renewed_from : List ℕ → ℕ → ℕ → ℕ → List ℕ
renewed_from m p i zero = m
renewed_from m p i (suc n) = renewed_from (renewed m p i) p (i + 1) n

-- the list in slot p with the children that are left, all counted anew
abbrev pub relisted : ℕ → List ℕ × List Kid → List ℕ
relisted p (m, ks) = renewed_from (list_put m p (list_of ks)) p 0 (length ks)

abbrev pub compacted_kids : List ℕ → ℕ → List Kid → List ℕ
compacted_kids m p ks = relisted p (packed_all m ks)

-- What the call comes to. A list of lists, or of one child, stays as it is.
unfoldable pub compacted : List ℕ → ℕ → Outcome (List ℕ)
compacted m p =
    ruled (all_rules m p) (cond (is_leaf m (slot_in (children_of m p) 0) && ltb 1 (len_of m p)) (compacted_kids m p (children_of m p)) m)
