-- What each call of a child list comes to, over lists in slots of the memory: a question is a call, the memory, the list's slot, another
-- slot, two indices and a child, and an answer is five numbers and the memory afterwards.
use Rattle.std.specs.Prelude.{◌≡◌, Bool, true, false, ◌||◌, cond, List, [], ◌∷◌, ℕ, ◌-◌, eqb, ltb, get_or, Ok, Err}
use Rattle.plain.specs.Outcome.{Outcome, Outcome.value, Outcome.refused, Rule, ruled, past, kept, mapped}
use Rattle.answer.specs.Answers.{Answer, outcome}
use Rattle.text_info.specs.declared.TextSum.{TextSum}
use Rattle.pool.specs.declared.Kid.{Kid}
use Rattle.pool.specs.Calls.{outside}
use Rattle.node_children.specs.declared.NodeChildren.{NodeChildren}
use Rattle.node_children.specs.Kids.{list_of}
use Rattle.node_children.specs.Calls.{pushed, popped, inserted, removed, split_off, pushed_split, inserted_split, distributed}
use Rattle.child_search.specs.declared.Measure.TheVariants.{Bytes, Chars, Utf16, Breaks}
use Rattle.child_search.specs.Sought.{combined, searched, chars_of, searched_range}
use Rattle.nodes.specs.Node.{list_put}
use Rattle.nodes.specs.Calls.{loaded, stored}
use Rattle.child_info.specs.Calls.{updated, accurate}
use Rattle.merge.specs.Merge.{merging}
use Rattle.compact.specs.Pack.{compacted}
use Rattle.list_calls.specs.declared.Call.{Call}
use Rattle.list_calls.specs.declared.Call.TheVariants.{New, Reads, Edits, Takes, Parts, Deeps, DistributeWith}
use Rattle.list_calls.specs.declared.deeps.Deep.{Deep}
use Rattle.list_calls.specs.declared.deeps.Deep.TheVariants.{UpdateChildInfo, MergeDistribute, CompactLeaves, IsInfoAccurate}
use Rattle.list_calls.specs.declared.reads.Read.{Read}
use Rattle.list_calls.specs.declared.reads.Read.TheVariants.{Len, IsFull, CombinedInfo, SearchByteIdx, SearchCharIdx, SearchUtf16CodeUnitIdx, SearchCharIdxOnly, SearchLineBreakIdx, SearchCharIdxRange}
use Rattle.list_calls.specs.declared.writes.Edit.{Edit}
use Rattle.list_calls.specs.declared.writes.Edit.TheVariants.{Push, Insert}
use Rattle.list_calls.specs.declared.writes.Take.{Take}
use Rattle.list_calls.specs.declared.writes.Take.TheVariants.{Pop, Remove}
use Rattle.list_calls.specs.declared.writes.Part.{Part}
use Rattle.list_calls.specs.declared.writes.Part.TheVariants.{PushSplit, InsertSplit, SplitOff}

-- ── the five numbers: those that a call does not name are 0 ──

abbrev pub Five : Type 0
Five = ℕ × ℕ × ℕ × ℕ × ℕ

abbrev pub none : Five
none = (0, 0, 0, 0, 0)

abbrev pub one : ℕ → Five
one n = (n, 0, 0, 0, 0)

abbrev pub told : Bool → Five
told t = one (cond t 1 0)

abbrev pub spot : ℕ × TextSum → Five
spot (i, s) = (i, s.bytes, s.chars, s.utf16_surrogates, s.line_breaks)

abbrev pub sums : TextSum → Five
sums s = spot (0, s)

abbrev pub spot_chars : ℕ × ℕ → Five
spot_chars (i, n) = (i, n, 0, 0, 0)

abbrev pub spots : (ℕ × ℕ) × (ℕ × ℕ) → Five
spots ((i, m), (j, n)) = (i, m, j, n, 0)

-- a child taken out: its slot and its counts
abbrev pub entry : Kid → Five
entry k = (k.slot, k.info.bytes, k.info.chars, k.info.utf16_surrogates, k.info.line_breaks)

-- ── calls after one another, and on the list in a slot ──

-- what comes of an outcome's value; its refusal stays
unfoldable pub and_then : {A B : Type 0} → Outcome A → (A → Outcome B) → Outcome B
and_then (value a) f = f a
and_then (refused n) f = refused n

abbrev pub with_list : {A : Type 0} → List ℕ → ℕ → (NodeChildren → Outcome A) → Outcome A
with_list m p f = and_then (loaded m p) f

-- ── readings ──

unfoldable pub read_by : Read → ℕ → ℕ → NodeChildren → Outcome Five
read_by Len i j c = value (one c.len)
read_by IsFull i j c = value (told (eqb c.len 16))
read_by CombinedInfo i j c = mapped sums (combined c)
read_by SearchByteIdx i j c = mapped spot (searched c Bytes i)
read_by SearchCharIdx i j c = mapped spot (searched c Chars i)
read_by SearchUtf16CodeUnitIdx i j c = mapped spot (searched c Utf16 i)
read_by SearchCharIdxOnly i j c = mapped spot_chars (mapped chars_of (searched c Chars i))
read_by SearchLineBreakIdx i j c = mapped spot (searched c Breaks i)
read_by SearchCharIdxRange i j c = mapped spots (searched_range c i j)

abbrev pub reading : Read → ℕ → ℕ → List ℕ → ℕ → Outcome Five
reading w i j m p = with_list m p (read_by w i j)

-- ── one list made of one, and stored in its place ──

unfoldable pub edit_by : Edit → ℕ → Kid → NodeChildren → Outcome NodeChildren
edit_by Push i k c = pushed c k
edit_by Insert i k c = inserted c i k

abbrev pub editing : Edit → ℕ → Kid → List ℕ → ℕ → Outcome (List ℕ)
editing w i k m p = with_list m p (λ c. and_then (edit_by w i k c) (stored m p))

-- ── a child taken out of one, and what is left stored in its place ──

unfoldable pub take_by : Take → ℕ → NodeChildren → Outcome (Kid × NodeChildren)
take_by Pop i c = popped c
take_by Remove i c = removed c i

abbrev pub taken_from : List ℕ → ℕ → Kid × NodeChildren → Outcome (Five × List ℕ)
taken_from m p (k, c) = mapped (λ n. (entry k, n)) (stored m p c)

abbrev pub taking : Take → ℕ → List ℕ → ℕ → Outcome (Five × List ℕ)
taking w i m p = with_list m p (λ c. and_then (take_by w i c) (taken_from m p))

-- ── two lists made of one, or of two: the left one is stored in its place, the right one in another slot ──

unfoldable pub part_by : Part → ℕ → Kid → NodeChildren → Outcome (NodeChildren × NodeChildren)
part_by PushSplit i k c = pushed_split c k
part_by InsertSplit i k c = inserted_split c i k
part_by SplitOff i k c = split_off c i

-- 2: no slot for a second list
abbrev pub no_other : List ℕ → ℕ → ℕ → Bool
no_other m p q = eqb p q || outside m q

-- two lists written into two slots: all is tested before a byte is written
abbrev pub both_rules : List ℕ → ℕ → ℕ → ℕ → ℕ → List Rule
both_rules m p q l r = (2, no_other m p q || outside m p) ∷ (11, past l 16 || past r 16) ∷ []

unfoldable pub both_stored : List ℕ → ℕ → ℕ → NodeChildren → NodeChildren → Outcome (List ℕ)
both_stored m p q l r = ruled (both_rules m p q l.len r.len) (list_put (list_put m p l) q r)

abbrev pub both : List ℕ → ℕ → ℕ → NodeChildren × NodeChildren → Outcome (List ℕ)
both m p q (l, r) = both_stored m p q l r

-- an outcome where that 2 may apply: 12 comes before it, and the others behind
unfoldable pub placed : {A : Type 0} → Bool → Outcome A → Outcome A
placed false o = o
placed true (value a) = refused 2
placed true (refused n) = refused (cond (eqb n 12) 12 2)

abbrev pub parting : Part → ℕ → Kid → List ℕ → ℕ → ℕ → Outcome (List ℕ)
parting w i k m p q = with_list m p (λ c. and_then (placed (no_other m p q) (part_by w i k c)) (both m p q))

abbrev pub distributing : List ℕ → ℕ → ℕ → Outcome (List ℕ)
distributing m p q = with_list m p (λ a. with_list m q (λ b. and_then (distributed a b) (both m p q)))

-- ── all calls ──

-- the memory as it was, and numbers read; no number, and the memory written; a yes or a no, and the memory
abbrev pub read : List ℕ → Outcome Five → Outcome (Five × List ℕ)
read m o = mapped (λ n. (n, m)) o

abbrev pub wrote : Outcome (List ℕ) → Outcome (Five × List ℕ)
wrote o = mapped (λ m. (none, m)) o

abbrev pub said : Outcome (Bool × List ℕ) → Outcome (Five × List ℕ)
said o = mapped (λ t. (told t.0, t.1)) o

-- the calls that reach into the nodes of a list's children
unfoldable pub deep_by : Deep → ℕ → ℕ → List ℕ → ℕ → Outcome (Five × List ℕ)
deep_by UpdateChildInfo i j m p = wrote (updated m p i)
deep_by MergeDistribute i j m p = said (merging m p i j)
deep_by CompactLeaves i j m p = wrote (compacted m p)
deep_by IsInfoAccurate i j m p = read m (mapped told (accurate m p))

unfoldable pub asked : Call → List ℕ → ℕ → ℕ → ℕ → ℕ → Kid → Outcome (Five × List ℕ)
asked New m p q i j k = wrote (stored m p (list_of []))
asked (Reads w) m p q i j k = read m (reading w i j m p)
asked (Edits w) m p q i j k = wrote (editing w i k m p)
asked (Takes w) m p q i j k = taking w i m p
asked (Parts w) m p q i j k = wrote (parting w i k m p q)
asked (Deeps w) m p q i j k = deep_by w i j m p
asked DistributeWith m p q i j k = wrote (distributing m p q)

-- the calls in the order of their numbers, from 1
unfoldable pub calls : List Call
calls =
    New
    ∷ Reads Len
    ∷ Reads IsFull
    ∷ Deeps UpdateChildInfo
    ∷ Edits Push
    ∷ Parts PushSplit
    ∷ Deeps MergeDistribute
    ∷ DistributeWith
    ∷ Deeps CompactLeaves
    ∷ Takes Pop
    ∷ Edits Insert
    ∷ Parts InsertSplit
    ∷ Takes Remove
    ∷ Parts SplitOff
    ∷ Reads CombinedInfo
    ∷ Reads SearchByteIdx
    ∷ Reads SearchCharIdx
    ∷ Reads SearchUtf16CodeUnitIdx
    ∷ Reads SearchCharIdxOnly
    ∷ Reads SearchLineBreakIdx
    ∷ Reads SearchCharIdxRange
    ∷ Deeps IsInfoAccurate
    ∷ []

-- by its number; one that names no call is a bad field
unfoldable pub asked_by : ℕ → List ℕ → ℕ → ℕ → ℕ → ℕ → Kid → Outcome (Five × List ℕ)
asked_by n m p q i j k = cond (eqb n 0 || ltb 22 n) (refused 10) (asked (get_or calls (n - 1) New) m p q i j k)

-- A call that answers five numbers, and every byte afterwards.
pub record Replied (o : Outcome (Five × List ℕ)) (before : List ℕ) (r : Answer Five) (after : List ℕ) : Type 0 where
  pub answered : outcome r ≡ mapped (λ t. t.0) o
  pub memory : after ≡ kept before (mapped (λ t. t.1) o)
