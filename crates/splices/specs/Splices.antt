-- What an edit of one leaf of the note comes to, from the root down and up again: the answer, and every byte afterwards.
use Rattle.std.specs.Prelude.{Bool, true, false, cond, List, [], ℕ, ◌-◌, ltb}
use Rattle.plain.specs.Outcome.{Outcome, Outcome.value, Outcome.refused}
use Rattle.text_info.specs.declared.TextSum.{TextSum}
use Rattle.child_search.specs.declared.Measure.{Measure}
use Rattle.child_search.specs.declared.Measure.TheVariants.{CharEnds}
use Rattle.tree_search.specs.Search.{leaf_at}
use Rattle.note_head.specs.Head.{root_of, height_of}
use Rattle.leaf_parts.specs.Parts.{leaf_text, byte_in, spot_of}
use Rattle.edit_steps.specs.Made.{Made, Made.same, Made.split, Made.small, Made.apart}
use Rattle.edit_steps.specs.Acts.{Act, reading, onward}
use Rattle.descent.specs.declared.Part.{Part}
use Rattle.descent.specs.declared.Part.TheVariants as Part·case
use Rattle.descent.specs.Descent.{edited_at}
use Rattle.root_step.specs.Root.{rooted, rooted_by}

-- what became of the root, put into the head
abbrev pub rooted_after : Act Made → Act (Unit {0})
rooted_after o = rooted_by o.1 o.0

-- a part of the leaf that an index lies in gives way to a piece: what becomes of the root, and the same put into the head
abbrev pub descended : List ℕ → Measure → ℕ → Part → List ℕ → Act Made
descended m by at part piece = edited_at m (height_of m) (root_of m).slot by at part piece

unfoldable pub spliced : List ℕ → Measure → ℕ → Part → List ℕ → Act (Unit {0})
unfolding edited_at rooted
spliced m by at part piece = rooted_after (descended m by at part piece)

-- whether what was to be edited lay inside one leaf
abbrev pub lay : Outcome Made → Bool
lay (value apart) = false
lay (value (same i)) = true
lay (value (split i s j)) = true
lay (value (small i)) = true
lay (refused n) = true

-- k chars before a place give way to a piece, if they lie inside one leaf: whether they do
abbrev pub told_inside : Act Made → Act Bool
told_inside o = onward (rooted_after o) (λ u l. (value (lay o.0), l))

abbrev pub inside_at : List ℕ → ℕ → ℕ → List ℕ → Act Bool
inside_at m at k piece = told_inside (descended m CharEnds at (Part·case.Inside k) piece)

-- the byte of the leaf r at which its char i begins
abbrev pub byte_at : List ℕ → ℕ × TextSum → ℕ → ℕ
byte_at m r i = byte_in (leaf_text m r.0) i

-- the chars of the leaf r before the place
abbrev pub inner : ℕ → ℕ × TextSum → ℕ
inner at r = at - r.1.chars

-- a piece put in at a place
unfoldable pub put_at : List ℕ → Measure → ℕ → List ℕ → Act (Unit {0})
unfolding leaf_at spliced
put_at m by at piece = reading m (spot_of m by at) (λ r. spliced m by at (Part·case.Bytes (byte_at m r (inner at r)) (byte_at m r (inner at r))) piece)

abbrev pub lesser : ℕ → ℕ → ℕ
lesser a b = cond (ltb a b) a b

-- the chars before a place, at most k and of one leaf, taken out: how many they were
abbrev pub taken_out : List ℕ → ℕ → ℕ → ℕ × TextSum → Act ℕ
taken_out m at k r =
    onward (spliced m CharEnds at (Part·case.Bytes (byte_at m r (inner at r - lesser k (inner at r))) (byte_at m r (inner at r))) [])
    (λ u l. (value (lesser k (inner at r)), l))

unfoldable pub cut_at : List ℕ → ℕ → ℕ → Act ℕ
unfolding leaf_at spliced
cut_at m at k = reading m (spot_of m CharEnds at) (taken_out m at k)
