-- The leaf's definitions at work, computed: document 01's fourteen, 11 and 12, and splits and refusals on small texts.
use mathlib.Core.Path.{◌≡◌, refl}
use mathlib.Core.List.{List, [], ◌∷◌}
use Prim.Native.Nat.{ℕ}
use Rattle.plain.specs.Utf8.{valid_utf8}
use Rattle.plain.specs.Place.{is_boundary}
use Rattle.plain.specs.Outcome.{Outcome.value, Outcome.refused}
use Rattle.node_text.specs.Texts.{edited, split_off, inserted_split, seam_fixed}

-- a region of four bytes that begins with a text
abbrev four : ℕ → ℕ → List ℕ
four x y = x ∷ y ∷ 0 ∷ 0 ∷ []

-- 11: the seam of "a CR" and "LF" becomes that of "a" and "CR LF"; 12: that of "CR" and "LF" that of "CR LF" and nothing
pub seams :
    (seam_fixed (four 0x61 0x0D) 2 (four 0x0A 0) 1 ≡ value (0x61 ∷ [], 0x0D ∷ 0x0A ∷ [])) × (seam_fixed (four 0x0D 0) 1 (four 0x0A 0) 1 ≡ value (0x0D ∷ 0x0A ∷ [], []))
    × (seam_fixed (four 0x0D 0) 1 (four 0x0A 0) 0 ≡ refused 12) × (seam_fixed (four 0x0D 0) 1 (four 0x80 0) 1 ≡ refused 5)
unfolding seam_fixed valid_utf8
seams = (refl, refl, refl, refl)

-- an edit, one past the end, one inside é, one with half a char, one that has no room
pub edits :
    (edited (four 0x61 0x62) 2 1 1 (0xC3 ∷ 0xA9 ∷ []) ≡ value (0x61 ∷ 0xC3 ∷ 0xA9 ∷ 0x62 ∷ [])) × (edited (four 0x61 0x62) 2 3 3 [] ≡ refused 3)
    × (edited (four 0xC3 0xA9) 2 1 1 [] ≡ refused 3) × (edited (four 0x61 0x62) 2 0 1 (0xC3 ∷ []) ≡ refused 5)
    × (edited (four 0x61 0x62) 2 0 0 (0x63 ∷ 0x64 ∷ 0x65 ∷ []) ≡ refused 11)
unfolding edited valid_utf8 is_boundary
edits = (refl, refl, refl, refl, refl)

-- no split inside CR LF, nor inside é
pub splits :
    (inserted_split (four 0x61 0x0D) 2 2 (0x0A ∷ 0x62 ∷ []) (four 0 0) ≡ value (0x61 ∷ 0x0D ∷ 0x0A ∷ [], 0x62 ∷ []))
    × (inserted_split (four 0xC3 0xA9) 2 2 [] (four 0 0) ≡ value (0xC3 ∷ 0xA9 ∷ [], [])) × (split_off (four 0xC3 0xA9) 2 1 (four 0 0) ≡ refused 3)
unfolding inserted_split split_off valid_utf8 is_boundary
splits = (refl, refl, refl)
