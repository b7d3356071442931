-- The lists' definitions at work, computed: document 01's fourteen, 13, and splits, edits and refusals on short lists.
use mathlib.Core.Path.{◌≡◌, refl}
use mathlib.Core.List.{List, [], ◌∷◌}
use Prim.Native.Nat.{ℕ}
use Rattle.plain.specs.Outcome.{Outcome.value, Outcome.refused}
use Rattle.pool.specs.declared.Kid.{Kid}
use Rattle.node_children.specs.Kids.{list_of}
use Rattle.node_children.specs.Calls.{popped, inserted, removed, split_off, pushed_split, inserted_split, distributed}

-- a child of two chars, one of them of two UTF-16 units, that is a line of five bytes
abbrev pub kid : ℕ → Kid
kid n = record { slot = n; info = record { bytes = 5; chars = 2; utf16_surrogates = 1; line_breaks = 1 } }

abbrev pub three : List Kid
three = kid 1 ∷ kid 2 ∷ kid 3 ∷ []

abbrev six : List Kid
six = kid 4 ∷ kid 5 ∷ kid 6 ∷ kid 7 ∷ kid 8 ∷ kid 9 ∷ []

-- 13: three and six children distributed are five and four; and a list that is too long
pub shared :
    (distributed (list_of three) (list_of six) ≡ value (list_of (kid 1 ∷ kid 2 ∷ kid 3 ∷ kid 4 ∷ kid 5 ∷ []), list_of (kid 6 ∷ kid 7 ∷ kid 8 ∷ kid 9 ∷ [])))
    × (distributed (list_of three) (record { len = 17; arr = [] }) ≡ refused 11)
unfolding distributed
shared = (refl, refl)

-- a split leaves the greater half on the left; of no child there is none
pub splits :
    (pushed_split (list_of three) (kid 4) ≡ value (list_of (kid 1 ∷ kid 2 ∷ []), list_of (kid 3 ∷ kid 4 ∷ [])))
    × (inserted_split (list_of (kid 1 ∷ kid 2 ∷ [])) 0 (kid 3) ≡ value (list_of (kid 3 ∷ kid 1 ∷ []), list_of (kid 2 ∷ []))) × (pushed_split (list_of []) (kid 1) ≡ refused 12)
    × (inserted_split (list_of []) 1 (kid 1) ≡ refused 12) × (split_off (list_of three) 3 ≡ value (list_of three, list_of [])) × (split_off (list_of three) 4 ≡ refused 3)
unfolding pushed_split inserted_split split_off
splits = (refl, refl, refl, refl, refl, refl)

-- an index may be the length where a child is put in, and not where one is taken out; that of an empty list is 12
pub edits :
    (inserted (list_of (kid 1 ∷ [])) 1 (kid 2) ≡ value (list_of (kid 1 ∷ kid 2 ∷ []))) × (inserted (list_of []) 1 (kid 2) ≡ refused 3)
    × (removed (list_of (kid 1 ∷ kid 2 ∷ [])) 0 ≡ value (kid 1, list_of (kid 2 ∷ []))) × (removed (list_of (kid 1 ∷ [])) 1 ≡ refused 3)
    × (removed (list_of []) 1 ≡ refused 12) × (popped (list_of (kid 1 ∷ kid 2 ∷ [])) ≡ value (kid 2, list_of (kid 1 ∷ [])))
unfolding inserted removed popped
edits = (refl, refl, refl, refl, refl, refl)
