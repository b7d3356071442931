-- What the calls of a child list come to. Each call's refusals stand in document 01's order.
use Rattle.std.specs.Prelude.{◌||◌, List, [], ◌∷◌, ◌++◌, ℕ, ◌+◌, ◌-◌, ◌/◌, eqb, leb, length, take, drop, get_or}
use Rattle.plain.specs.Outcome.{Outcome, Rule, ruled, past}
use Rattle.pool.specs.declared.Kid.{Kid}
use Rattle.node_children.specs.declared.NodeChildren.{NodeChildren}
use Rattle.pool.specs.Slot.{no_kid}
use Rattle.node_children.specs.Kids.{kids, list_of}

-- 12: no child where one is needed
abbrev pub no_child : NodeChildren → Rule
no_child c = (12, eqb c.len 0)

-- 11: a list of more than 16, given or answered
abbrev pub too_long : ℕ → Rule
too_long n = (11, past n 16)

-- one child more, before the one at i
abbrev pub with_kid : ℕ → Kid → List Kid → List Kid
with_kid i k ks = take i ks ++ (k ∷ drop i ks)

-- the children but the one at i
abbrev pub without : ℕ → List Kid → List Kid
without i ks = take i ks ++ drop (i + 1) ks

-- how many of n children a split leaves on the left: the right list has half of them, rounded down
abbrev pub left_of : ℕ → ℕ
left_of n = n - n / 2

abbrev pub cut_at : ℕ → List Kid → NodeChildren × NodeChildren
cut_at m ks = (list_of (take m ks), list_of (drop m ks))

abbrev pub halves : List Kid → NodeChildren × NodeChildren
halves ks = cut_at (left_of (length ks)) ks

unfoldable pub pushed : NodeChildren → Kid → Outcome NodeChildren
unfolding ruled list_of
pushed c k = ruled (too_long (c.len + 1) ∷ []) (list_of (kids c ++ (k ∷ [])))

unfoldable pub popped : NodeChildren → Outcome (Kid × NodeChildren)
unfolding ruled list_of
popped c = ruled (no_child c ∷ too_long c.len ∷ []) (get_or (kids c) (c.len - 1) no_kid, list_of (take (c.len - 1) (kids c)))

unfoldable pub inserted : NodeChildren → ℕ → Kid → Outcome NodeChildren
unfolding ruled list_of
inserted c i k = ruled ((3, past i c.len) ∷ too_long (c.len + 1) ∷ []) (list_of (with_kid i k (kids c)))

unfoldable pub removed : NodeChildren → ℕ → Outcome (Kid × NodeChildren)
unfolding ruled list_of
removed c i = ruled (no_child c ∷ (3, leb c.len i) ∷ too_long c.len ∷ []) (get_or (kids c) i no_kid, list_of (without i (kids c)))

unfoldable pub split_off : NodeChildren → ℕ → Outcome (NodeChildren × NodeChildren)
unfolding ruled list_of
split_off c i = ruled ((3, past i c.len) ∷ too_long c.len ∷ []) (cut_at i (kids c))

unfoldable pub pushed_split : NodeChildren → Kid → Outcome (NodeChildren × NodeChildren)
unfolding ruled list_of
pushed_split c k = ruled (no_child c ∷ too_long c.len ∷ []) (halves (kids c ++ (k ∷ [])))

unfoldable pub inserted_split : NodeChildren → ℕ → Kid → Outcome (NodeChildren × NodeChildren)
unfolding ruled list_of
inserted_split c i k = ruled (no_child c ∷ (3, past i c.len) ∷ too_long c.len ∷ []) (halves (with_kid i k (kids c)))

unfoldable pub distributed : NodeChildren → NodeChildren → Outcome (NodeChildren × NodeChildren)
unfolding ruled list_of
distributed a b = ruled ((11, past a.len 16 || past b.len 16) ∷ []) (halves (kids a ++ kids b))
