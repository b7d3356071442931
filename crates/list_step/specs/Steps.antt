-- What a step of an edit in a list of children comes to: the refusals, what became of the list, and every byte afterwards. A refusal of a
-- later test stands behind those of earlier ones, whatever its number.
use Rattle.std.specs.Prelude.{not, cond, List, [], ◌∷◌, ◌++◌, ℕ, ◌+◌, ltb, leb, take, drop, get_or}
use Rattle.plain.specs.Outcome.{Outcome, Outcome.value, Outcome.refused, ruled, past}
use Rattle.text_info.specs.declared.TextInfo.{TextInfo}
use Rattle.pool.specs.declared.Kid.{Kid}
use Rattle.pool.specs.Slot.{len_of, no_kid, kid_put}
use Rattle.node_children.specs.declared.NodeChildren.{NodeChildren}
use Rattle.node_children.specs.Kids.{kids, list_of}
use Rattle.node_children.specs.Calls.{with_kid, halves}
use Rattle.nodes.specs.Node.{is_list, children_of, too_wide, narrowed, total_of, list_put}
use Rattle.edit_steps.specs.Made.{Made, Made.split, sized}
use Rattle.edit_steps.specs.Grown.{kid}
use Rattle.free_slots.specs.Slots.{taken}

-- one call behind another that was accepted
abbrev pub and_then : {A B : Type 0} → Outcome A → (A → Outcome B) → Outcome B
and_then (value a) f = f a
and_then (refused n) f = refused n

-- ── the children ──

-- the one at i with other counts
abbrev pub recount : ℕ → TextInfo → List Kid → List Kid
recount i info ks = take i ks ++ (kid (get_or ks i no_kid).slot info ∷ drop (i + 1) ks)

-- of the list in slot p
unfoldable pub recounted : List ℕ → ℕ → ℕ → TextInfo → Outcome NodeChildren
unfolding ruled is_list list_of
recounted m p i info = ruled ((2, not (is_list m p)) ∷ (3, leb (len_of m p) i) ∷ []) (list_of (recount i info (children_of m p)))

-- ── stored ──

-- in one list, which should have four
unfoldable pub keeping : List ℕ → ℕ → NodeChildren → Outcome (Made × List ℕ)
unfolding ruled
keeping m p c =
    ruled ((2, too_wide (total_of (kids c))) ∷ []) (sized 4 c.len (narrowed (total_of (kids c))), list_put m p c)

-- in two lists, the right one in the first free slot
unfoldable pub laying : List ℕ → ℕ → NodeChildren → TextInfo → NodeChildren → TextInfo → Outcome (Made × List ℕ)
unfolding taken
laying m p a i b j = and_then (taken m) (λ t. value (split i t.0 j, list_put (list_put t.1 p a) t.0 b))

unfoldable pub parting : List ℕ → ℕ → NodeChildren → NodeChildren → Outcome (Made × List ℕ)
unfolding laying
parting m p a b =
    cond (too_wide (total_of (kids a))) (refused 2)
    (cond (too_wide (total_of (kids b))) (refused 2) (laying m p a (narrowed (total_of (kids a))) b (narrowed (total_of (kids b)))))

-- one child more before the one at j: a full list is parted
unfoldable pub adding : List ℕ → ℕ → ℕ → Kid → NodeChildren → Outcome (Made × List ℕ)
unfolding keeping parting list_of
adding m p j k c =
    cond (ltb c.len 16) (keeping m p (list_of (with_kid j k (kids c))))
    (parting m p (halves (with_kid j k (kids c))).0 (halves (with_kid j k (kids c))).1)

-- ── the calls ──

-- child i of the list in slot p has other counts: its entry alone is written
unfoldable pub one_put : List ℕ → ℕ → ℕ → TextInfo → Outcome (Made × List ℕ)
unfolding ruled is_list
one_put m p i info =
    ruled ((2, not (is_list m p)) ∷ (3, leb (len_of m p) i) ∷ (2, too_wide (total_of (recount i info (children_of m p)))) ∷ [])
    (sized 4 (len_of m p) (narrowed (total_of (recount i info (children_of m p)))), kid_put m p i (kid (get_or (children_of m p) i no_kid).slot info))

-- and one more behind it. 2 also for a slot that 32 bits do not name
unfoldable pub two_put : List ℕ → ℕ → ℕ → TextInfo → ℕ → TextInfo → Outcome (Made × List ℕ)
unfolding recounted adding
two_put m p i info right other =
    cond (past right 4294967295) (refused 2) (and_then (recounted m p i info) (adding m p (i + 1) (kid right other)))
