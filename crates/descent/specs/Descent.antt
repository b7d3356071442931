-- What an edit of the leaf that a search finds comes to, one level down at each step: the answer, and every byte afterwards. Where the tree is
-- broken a step may be refused behind one that was done; in a sound tree none is.
use Rattle.std.specs.Prelude.{Bool, ◌&&◌, cond, List, ℕ, zero, suc, ◌-◌, ltb, length}
use Rattle.plain.specs.Outcome.{Outcome.value}
use Rattle.child_search.specs.declared.Measure.{Measure}
use Rattle.tree_search.specs.Search.{count_in, branch_at}
use Rattle.leaf_parts.specs.Parts.{leaf_text, byte_in}
use Rattle.edit_steps.specs.Made.{Made, Made.apart}
use Rattle.edit_steps.specs.Acts.{Act, settled, reading}
use Rattle.leaf_step.specs.Steps.{leaf_stepped}
use Rattle.rise.specs.Rise.{risen, risen_by}
use Rattle.descent.specs.declared.Part.{Part}
use Rattle.descent.specs.declared.Part.TheVariants as Part·case

-- whether the k chars before the char `at` lie inside a text: chars stay before them and behind them
unfoldable pub lies_inside : List ℕ → ℕ → ℕ → Bool
lies_inside t at k = ltb k at && ltb (byte_in t at) (length t)

-- these of the leaf in slot s give way to a piece, if they lie inside it
unfoldable pub inside_part : List ℕ → ℕ → ℕ → ℕ → List ℕ → Act Made
unfolding leaf_stepped lies_inside
inside_part m s at k piece =
    cond (lies_inside (leaf_text m s) at k) (settled m (leaf_stepped m s (byte_in (leaf_text m s) (at - k)) (byte_in (leaf_text m s) at) piece)) (value apart, m)

-- a part of the leaf in slot s gives way to a piece
abbrev pub leaf_part : List ℕ → ℕ → ℕ → Part → List ℕ → Act Made
leaf_part m s at (Part·case.Bytes i e) piece = settled m (leaf_stepped m s i e piece)
leaf_part m s at (Part·case.Inside k) piece = inside_part m s at k piece

-- what became of a child, put into its list at i, in the memory that the edit of the child left
abbrev pub risen_after : Act Made → ℕ → ℕ → Act Made
risen_after o p i = risen_by o.1 p i o.0

-- a part of the leaf that the index lies in gives way to a piece, in the tree of height h at slot s
unfoldable pub edited_at : List ℕ → ℕ → ℕ → Measure → ℕ → Part → List ℕ → Act Made
unfolding leaf_stepped inside_part branch_at risen
edited_at m zero s by at part piece = leaf_part m s at part piece
edited_at m (suc h) s by at part piece =
    reading m (branch_at m s by at) (λ c. risen_after (edited_at m h c.1.0 by (at - count_in by c.1.1) part piece) s c.0)
