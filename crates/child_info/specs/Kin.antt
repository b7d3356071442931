-- What is asked of the children of a list before they are touched.
use Rattle.std.specs.Prelude.{Bool, true, false, not, ◌&&◌, ◌||◌, cond, List, [], ◌∷◌, ℕ, eqb, ltb, length, get_or}
use Rattle.plain.specs.Outcome.{Outcome, Outcome.value, Outcome.refused, Rule}
use Rattle.text_info.specs.declared.TextInfo.{TextInfo}
use Rattle.pool.specs.declared.Kid.{Kid}
use Rattle.pool.specs.Slot.{no_kid, len_of}
use Rattle.nodes.specs.Node.{is_leaf, is_list, children_of}
use Rattle.nodes.specs.Calls.{counted}
use Rattle.child_info.specs.declared.checks.Ask.{Ask}
use Rattle.child_info.specs.declared.checks.Ask.TheVariants.{Leaf, List as AList, Lost, Ill, Stale}

-- two texts with equal counts
abbrev pub same_info : TextInfo → TextInfo → Bool
same_info a b = eqb a.bytes b.bytes && (eqb a.chars b.chars && (eqb a.utf16_surrogates b.utf16_surrogates && eqb a.line_breaks b.line_breaks))

-- refused by a number
abbrev pub refused_by : {A : Type 0} → ℕ → Outcome A → Bool
refused_by n (value a) = false
refused_by n (refused k) = eqb k n

-- a child whose counts in the list are not those of its node
abbrev pub differs : TextInfo → Outcome TextInfo → Bool
differs i (value a) = not (same_info i a)
differs i (refused k) = true

abbrev pub stale_in : List ℕ → Kid → Bool
stale_in m k = differs k.info (counted m k.slot)

abbrev pub asks_of : Ask → List ℕ → Kid → Bool
asks_of Leaf m k = is_leaf m k.slot
asks_of AList m k = is_list m k.slot
asks_of Lost m k = refused_by 2 (counted m k.slot)
asks_of Ill m k = refused_by 5 (counted m k.slot)
asks_of Stale m k = stale_in m k

-- whether it is so of some child
unfoldable pub some_of : Ask → List ℕ → List Kid → Bool
some_of q m [] = false
some_of q m (k ∷ ks) = asks_of q m k || some_of q m ks

abbrev pub slots_of : List Kid → List ℕ
slots_of [] = []
slots_of (k ∷ ks) = k.slot ∷ slots_of ks

-- that of the child at i
abbrev pub slot_in : List Kid → ℕ → ℕ
slot_in ks i = (get_or ks i no_kid).slot

abbrev pub among : ℕ → List ℕ → Bool
among s [] = false
among s (t ∷ ts) = eqb t s || among s ts

-- some slot twice
abbrev pub repeats : List ℕ → Bool
repeats [] = false
repeats (s ∷ ss) = among s ss || repeats ss

-- 12: siblings of different kinds
abbrev pub mixed : List ℕ → List Kid → Bool
mixed m ks = some_of Leaf m ks && some_of AList m ks

-- a child that is no node
abbrev pub some_lost : List ℕ → List Kid → Bool
some_lost m ks = some_of Lost m ks

-- 2: a child that is no node, or a slot twice, that of the list itself among them
abbrev pub broken : List ℕ → ℕ → List Kid → Bool
broken m p ks = some_lost m ks || repeats (p ∷ slots_of ks)

-- 5: a leaf that is no text
abbrev pub some_ill : List ℕ → List Kid → Bool
some_ill m ks = some_of Ill m ks

-- the three, for children of the list in slot p
abbrev pub move_rules : List ℕ → ℕ → List Kid → List Rule
move_rules m p ks = (12, mixed m ks) ∷ (2, broken m p ks) ∷ (5, some_ill m ks) ∷ []

-- ── the list in a slot ──

-- 12: a list without children
abbrev pub childless : List ℕ → ℕ → Bool
childless m p = is_list m p && eqb (len_of m p) 0

-- its children; of another slot none
abbrev pub kids_in : List ℕ → ℕ → List Kid
kids_in m p = cond (is_list m p) (children_of m p) []

-- two indices that rise, and each names a child
abbrev pub rises : ℕ → ℕ → List Kid → Bool
rises i j ks = ltb i j && ltb j (length ks)

-- the children that they name
abbrev pub pair_at : ℕ → ℕ → List Kid → List Kid
pair_at i j ks = cond (rises i j ks) (get_or ks i no_kid ∷ get_or ks j no_kid ∷ []) []
