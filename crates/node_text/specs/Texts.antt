-- What the calls of a leaf come to: the leaf is text, and so is what is put into it. Each call's refusals stand in document 01's order.
use Rattle.std.specs.Prelude.{not, ◌||◌, List, [], ◌∷◌, ℕ}
use Rattle.plain.specs.Utf8.{valid_utf8}
use Rattle.plain.specs.Place.{is_boundary}
use Rattle.plain.specs.Edit.{replaced, put_in}
use Rattle.plain.specs.Outcome.{Outcome, Rule, ruled, past}
use Rattle.leaf_bytes.specs.Leaf.{leaf_of, over}
use Rattle.leaf_bytes.specs.Split.{half_split, seam_split}
use Rattle.leaf_bytes.specs.Raw.{editing, cutting, cutting_half, cutting_seam, no_side}

-- 3: a start above its end, or one of them no char boundary; past the end of the leaf there is none
abbrev pub off_chars : List ℕ → ℕ → ℕ → Rule
off_chars leaf s e = (3, past s e || (not (is_boundary leaf s) || not (is_boundary leaf e)))

-- 5: one of two texts is not well formed
abbrev pub no_text : List ℕ → List ℕ → Rule
no_text a b = (5, not (valid_utf8 a) || not (valid_utf8 b))

-- [s, e) of a leaf gives way to a piece
unfoldable pub edited : List ℕ → ℕ → ℕ → ℕ → List ℕ → Outcome (List ℕ)
unfolding ruled
edited region len s e piece =
    editing (off_chars (leaf_of region len) s e ∷ no_text (leaf_of region len) piece ∷ []) region len (replaced s e piece (leaf_of region len))

-- a leaf parted at i
unfoldable pub split_off : List ℕ → ℕ → ℕ → List ℕ → Outcome (List ℕ × List ℕ)
unfolding ruled
split_off region len i right =
    cutting (off_chars (leaf_of region len) i i ∷ no_text (leaf_of region len) [] ∷ []) (over region len) region right (leaf_of region len) i

-- a piece put into a leaf at i, and the whole parted near its half
unfoldable pub inserted_split : List ℕ → ℕ → ℕ → List ℕ → List ℕ → Outcome (List ℕ × List ℕ)
unfolding ruled half_split
inserted_split region len i piece right =
    cutting_half (off_chars (leaf_of region len) i i ∷ no_text (leaf_of region len) piece ∷ []) (over region len) region right (put_in i piece (leaf_of region len))

-- two leaves whose seam is moved to a break, if it is none
unfoldable pub seam_fixed : List ℕ → ℕ → List ℕ → ℕ → Outcome (List ℕ × List ℕ)
unfolding ruled seam_split
seam_fixed left len right rlen =
    cutting_seam (no_side (leaf_of left len) (leaf_of right rlen) ∷ no_text (leaf_of left len) (leaf_of right rlen) ∷ []) left len right rlen
