-- Sums of the children's counts, and the searches by them.
use Rattle.std.specs.Prelude.{◌≡◌, Bool, true, false, ◌||◌, cond, List, [], ◌∷◌, ℕ, ◌+◌, ◌*◌, ◌≤◌, ◌<◌, ltb, leb, eqb, take, drop, Ok, Err}
use Rattle.plain.specs.Outcome.{Outcome, Outcome.value, Outcome.refused, ruled, past}
use Rattle.answer.specs.Answers.{refusal_number, Answer}
use Rattle.text_info.specs.Info.{zeros}
use Rattle.text_info.specs.declared.TextInfo.{TextInfo}
use Rattle.text_info.specs.declared.TextSum.{TextSum}
use Rattle.pool.specs.declared.Kid.{Kid}
use Rattle.pool.specs.Slot.{region_of, entries}
use Rattle.pool.specs.Calls.{outside}
use Rattle.node_children.specs.declared.NodeChildren.{NodeChildren}
use Rattle.child_search.specs.declared.Measure.{Measure}
use Rattle.child_search.specs.declared.Measure.TheVariants.{Bytes, Chars, Utf16, Breaks, CharEnds}
use Rattle.node_children.specs.Kids.{kids}
use Rattle.node_children.specs.Calls.{no_child, too_long}

-- ── the answers on paper ──

-- ── sums ──

-- with the counts of one child more
abbrev pub plus_info : TextSum → TextInfo → TextSum
plus_info s t =
    record {
      bytes = s.bytes + t.bytes;
      chars = s.chars + t.chars;
      utf16_surrogates = s.utf16_surrogates + t.utf16_surrogates;
      line_breaks = s.line_breaks + t.line_breaks;
    }

-- the counts of children, on top of s
unfoldable pub sum_from : TextSum → List Kid → TextSum
sum_from s [] = s
sum_from s (k ∷ ks) = sum_from (plus_info s k.info) ks

-- the first n entries of slot s; a slot has sixteen
abbrev pub first_in : List ℕ → ℕ → ℕ → List Kid
first_in m s n = take n (entries (region_of m s))

-- the counts of all children of a list
abbrev pub total : NodeChildren → TextSum
total c = sum_from zeros (kids c)

unfoldable pub combined : NodeChildren → Outcome TextSum
unfolding ruled sum_from
combined c = ruled (too_long c.len ∷ []) (total c)

-- what n children can have at most: each count of one is 32 bits wide
pub record Within (s : TextSum) (n : ℕ) : Type 0 where
  pub b : s.bytes ≤ n * 4294967295
  pub c : s.chars ≤ n * 4294967295
  pub u : s.utf16_surrogates ≤ n * 4294967295
  pub l : s.line_breaks ≤ n * 4294967295

-- one child more, and what it can have at most
pub record Plus (s : TextSum) (t : TextInfo) (r : TextSum) : Type 0 where
  pub is : r ≡ plus_info s t
  pub b : r.bytes ≤ s.bytes + 4294967295
  pub c : r.chars ≤ s.chars + 4294967295
  pub u : r.utf16_surrogates ≤ s.utf16_surrogates + 4294967295
  pub l : r.line_breaks ≤ s.line_breaks + 4294967295

-- ── searches ──

-- Whether a search for an index stops at a child with this end, the sums with its own counts: where the index lies before the end; for
-- line breaks, and for the end of a range, also where it is the end.
abbrev pub stops_at : Measure → ℕ → TextSum → Bool
stops_at Bytes at e = ltb at e.bytes
stops_at Chars at e = ltb at e.chars
stops_at Utf16 at e = ltb at (e.chars + e.utf16_surrogates)
stops_at Breaks at e = leb at e.line_breaks
stops_at CharEnds at e = leb at e.chars

-- the highest index that there is: for lines their number, one more than the breaks
abbrev pub most_of : Measure → TextSum → ℕ
most_of Bytes s = s.bytes
most_of Chars s = s.chars
most_of Utf16 s = s.chars + s.utf16_surrogates
most_of Breaks s = s.line_breaks + 1
most_of CharEnds s = s.chars

abbrev pub none : List Kid → Bool
none [] = true
none (k ∷ ks) = false

-- The first child that a search stops at, else the last, with the sums on its left. The first of the children given is the i-th of its
-- list, and s are the sums on its left.
unfoldable pub search_from : (TextSum → Bool) → ℕ → TextSum → List Kid → ℕ × TextSum
search_from stops i s [] = (i, s)
search_from stops i s (k ∷ ks) =
    cond (none ks || stops (plus_info s k.info)) (i, s) (search_from stops (i + 1) (plus_info s k.info) ks)

abbrev pub found_by : Measure → ℕ → List Kid → ℕ × TextSum
found_by m at ks = search_from (stops_at m at) 0 zeros ks

unfoldable pub searched : NodeChildren → Measure → ℕ → Outcome (ℕ × TextSum)
unfolding ruled sum_from search_from
searched c m at = ruled (no_child c ∷ (3, past at (most_of m (total c))) ∷ too_long c.len ∷ []) (found_by m at (kids c))

-- among the first n entries of slot s
unfoldable pub searched_in : List ℕ → ℕ → ℕ → Measure → ℕ → Outcome (ℕ × TextSum)
unfolding ruled sum_from search_from
searched_in m s n by at =
    ruled ((12, eqb n 0) ∷ (2, outside m s) ∷ (3, past at (most_of by (sum_from zeros (first_in m s n)))) ∷ too_long n ∷ []) (found_by by at (first_in m s n))

-- a child and the chars on its left
abbrev pub chars_of : ℕ × TextSum → ℕ × ℕ
chars_of f = (f.0, f.1.chars)

-- the children at the two ends of a range of chars: that of the end is no earlier than that of the start
abbrev pub end_from : ℕ → ℕ × TextSum → List Kid → ℕ × TextSum
end_from e f ks = search_from (stops_at CharEnds e) f.0 f.1 (drop f.0 ks)

abbrev pub range_of : ℕ → ℕ → List Kid → (ℕ × ℕ) × (ℕ × ℕ)
range_of s e ks = (chars_of (found_by Chars s ks), chars_of (end_from e (found_by Chars s ks) ks))

unfoldable pub searched_range : NodeChildren → ℕ → ℕ → Outcome ((ℕ × ℕ) × (ℕ × ℕ))
unfolding ruled sum_from search_from
searched_range c s e = ruled (no_child c ∷ (3, past s e || past e (most_of Chars (total c))) ∷ too_long c.len ∷ []) (range_of s e (kids c))

-- where a search ends: at a child that there is, with sums that it can have
pub record Sought (c : NodeChildren) (i : ℕ) (s : TextSum) (found : ℕ × TextSum) : Type 0 where
  pub is : ◌≡◌ {A = ℕ × TextSum} (i, s) found
  pub child : i < c.len
  pub small : Within s i

-- what is found is one of at most 16 children, with sums that those on its left can have
abbrev pub Small : Answer (ℕ × TextSum) → Type 0
Small (Ok (i, s)) = (i < 16) × Within s 16
Small (Err r) = Unit {0}
