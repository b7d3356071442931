-- What each call of a leaf comes to: a question is a call, two regions with a leaf's length each, two indices and a piece, and an answer
-- is two leaves.
use Rattle.std.specs.Prelude.{◌||◌, cond, List, [], ◌∷◌, ℕ, ◌-◌, ltb, eqb, length, get_or}
use Rattle.plain.specs.Outcome.{Outcome, Outcome.value, Outcome.refused, mapped}
use Rattle.leaf_bytes.specs.Leaf.{leaf_of}
use Rattle.node_text.specs.Texts.{edited, split_off, inserted_split, seam_fixed}
use Rattle.leaf_calls.specs.declared.Call.{Call}
use Rattle.leaf_calls.specs.declared.Call.TheVariants.{FromStr, InsertStr, InsertStrSplit, PushStr, PushStrSplit, Truncate, TruncateFront, RemoveRange, SplitOff, FixSegmentSeam}

-- a call on one leaf leaves the right one as it lies
abbrev pub beside : List ℕ → Outcome (List ℕ) → Outcome (List ℕ × List ℕ)
beside right o = mapped (λ t. (t, right)) o

abbrev pub asked : Call → List ℕ → ℕ → ℕ → ℕ → List ℕ → List ℕ → ℕ → Outcome (List ℕ × List ℕ)
asked FromStr left len s e piece right rlen = beside (leaf_of right rlen) (edited left 0 0 0 piece)
asked InsertStr left len s e piece right rlen = beside (leaf_of right rlen) (edited left len s s piece)
asked InsertStrSplit left len s e piece right rlen = inserted_split left len s piece right
asked PushStr left len s e piece right rlen = beside (leaf_of right rlen) (edited left len (length (leaf_of left len)) (length (leaf_of left len)) piece)
asked PushStrSplit left len s e piece right rlen = inserted_split left len (length (leaf_of left len)) piece right
asked Truncate left len s e piece right rlen = beside (leaf_of right rlen) (edited left len s (length (leaf_of left len)) [])
asked TruncateFront left len s e piece right rlen = beside (leaf_of right rlen) (edited left len 0 s [])
asked RemoveRange left len s e piece right rlen = beside (leaf_of right rlen) (edited left len s e [])
asked SplitOff left len s e piece right rlen = split_off left len s right
asked FixSegmentSeam left len s e piece right rlen = seam_fixed left len right rlen

-- the calls in the order of their numbers, from 1
unfoldable pub calls : List Call
calls =
    FromStr ∷
    InsertStr ∷
    InsertStrSplit ∷
    PushStr ∷
    PushStrSplit ∷
    Truncate ∷
    TruncateFront ∷
    RemoveRange ∷
    SplitOff ∷
    FixSegmentSeam ∷ []

-- the call with a number; one that names no call is a bad field
unfoldable pub named : ℕ → Outcome Call
unfolding calls
named k = cond (eqb k 0 || ltb 10 k) (refused 10) (value (get_or calls (k - 1) FromStr))

-- the answer of the call with a number
unfoldable pub asked_by : ℕ → List ℕ → ℕ → ℕ → ℕ → List ℕ → List ℕ → ℕ → Outcome (List ℕ × List ℕ)
unfolding calls
asked_by k left len s e piece right rlen = cond (eqb k 0 || ltb 10 k) (refused 10) (asked (get_or calls (k - 1) FromStr) left len s e piece right rlen)
