-- What the calls on the children of a list in a slot come to: document 01's refusals, the answers, and the memory afterwards.
use Rattle.std.specs.Prelude.{Bool, not, ◌&&◌, ◌||◌, cond, List, [], ◌∷◌, ℕ, ltb}
use Rattle.plain.specs.Outcome.{Outcome, Outcome.refused, Rule, ruled}
use Rattle.pool.specs.Slot.{len_of}
use Rattle.nodes.specs.Node.{is_list}
use Rattle.child_info.specs.declared.checks.Ask.TheVariants.{Stale}
use Rattle.child_info.specs.Kin.{some_of, mixed, broken, some_lost, some_ill, childless, kids_in, rises, pair_at}
use Rattle.child_info.specs.Renewed.{renewing}

-- an outcome, where none of these rules applies
unfoldable pub after : {A : Type 0} → List Rule → Outcome A → Outcome A
after [] o = o
after (r ∷ rs) o = cond r.1 (refused r.0) (after rs o)

-- ── counts ──

-- the child at i of the list in slot p counted anew. Where there is no such child nothing is counted, so that 3 stands before the
-- refusals of counting.
abbrev pub names : List ℕ → ℕ → ℕ → Bool
names m p i = is_list m p && ltb i (len_of m p)

unfoldable pub updated : List ℕ → ℕ → ℕ → Outcome (List ℕ)
unfolding after
updated m p i = after ((12, childless m p) ∷ (2, not (is_list m p)) ∷ (3, not (names m p i)) ∷ []) (renewing m p i)

-- whether the counts of all children are right
unfoldable pub accurate : List ℕ → ℕ → Outcome Bool
unfolding ruled
accurate m p =
    ruled ((2, not (is_list m p) || some_lost m (kids_in m p)) ∷ (5, some_ill m (kids_in m p)) ∷ []) (not (some_of Stale m (kids_in m p)))

-- ── whether children may be moved ──

-- all of the list in slot p: 12 where it has none or they are of different kinds, 2 where it is no list or one is no node or a slot
-- occurs twice, 5 where a leaf is no text
abbrev pub all_rules : List ℕ → ℕ → List Rule
all_rules m p = (12, childless m p || mixed m (kids_in m p)) ∷ (2, not (is_list m p) || broken m p (kids_in m p)) ∷ (5, some_ill m (kids_in m p)) ∷ []

-- two of them: 3 also where the indices do not rise, or one names no child
abbrev pub pair_rules : List ℕ → ℕ → ℕ → ℕ → List Rule
pair_rules m p i j =
    (12, childless m p || mixed m (pair_at i j (kids_in m p)))
    ∷ (2, not (is_list m p) || broken m p (pair_at i j (kids_in m p)))
    ∷ (3, not (rises i j (kids_in m p)))
    ∷ (5, some_ill m (pair_at i j (kids_in m p)))
    ∷ []
