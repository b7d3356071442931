-- The leaf that a search for an index ends at, one level down at each step, and the counts of the text on its left; and what that means
-- in a sound tree.
use Rattle.std.specs.Prelude.{◌≡◌, true, false, ◌&&◌, cond, List, [], ◌++◌, ℕ, zero, suc, ◌+◌, ◌-◌, ◌*◌, get_or, Ok, Err}
use Rattle.plain.specs.Utf8.{valid_utf8, decode}
use Rattle.plain.specs.Count.{cr_last, lf_first}
use Rattle.plain.specs.Outcome.{Outcome, Outcome.value, Outcome.refused, mapped}
use Rattle.answer.specs.Answers.{refusal_number, Answer}
use Rattle.text_info.specs.Info.{zeros}
use Rattle.text_info.specs.declared.TextSum.{TextSum}
use Rattle.pool.specs.Slot.{no_kid}
use Rattle.node_children.specs.Kids.{list_of}
use Rattle.child_search.specs.declared.Measure.{Measure}
use Rattle.child_search.specs.declared.Measure.TheVariants.{Bytes, Chars, Utf16, Breaks, CharEnds}
use Rattle.child_search.specs.Sought.{stops_at, searched, Within}
use Rattle.nodes.specs.Node.{is_leaf, is_list, text_of, children_of}
use Rattle.tree.specs.Tree.{bytes_below, sum_of, plus_sum}

-- the count of a sum that a search goes by
abbrev pub count_in : Measure → TextSum → ℕ
count_in Bytes s = s.bytes
count_in Chars s = s.chars
count_in Utf16 s = s.chars + s.utf16_surrogates
count_in Breaks s = s.line_breaks
count_in CharEnds s = s.chars

-- sums that a search through h lists can find on the left
abbrev pub Bounded : ℕ → Answer (ℕ × TextSum) → Type 0
Bounded h (Ok (s, left)) = Within left (16 * h)
Bounded h (Err r) = Unit {0}

-- and those that a search in one list can
abbrev pub Narrow : Answer (ℕ × (ℕ × TextSum)) → Type 0
Narrow (Ok (i, (s, left))) = Within left 16
Narrow (Err r) = Unit {0}

-- the child of the list in slot s that an index lies in: its index, its slot, and the counts on its left
unfoldable pub branch_at : List ℕ → ℕ → Measure → ℕ → Outcome (ℕ × (ℕ × TextSum))
unfolding is_list searched
branch_at m s by at =
    cond (is_list m s) (mapped (λ c. (c.0, ((get_or (children_of m s) c.0 no_kid).slot, c.1))) (searched (list_of (children_of m s)) by at)) (refused 2)

-- what was found below a child, with the counts on the child's left added
abbrev pub below : (ℕ → TextSum → Outcome (ℕ × TextSum)) → Outcome (ℕ × (ℕ × TextSum)) → Outcome (ℕ × TextSum)
below f (value c) = mapped (λ r. (r.0, plus_sum c.1.1 r.1)) (f c.1.0 c.1.1)
below f (refused n) = refused n

-- the leaf that an index lies in, and the counts on its left
unfoldable pub leaf_at : List ℕ → ℕ → ℕ → Measure → ℕ → Outcome (ℕ × TextSum)
unfolding branch_at
leaf_at m zero s by at = value (s, zeros)
leaf_at m (suc h) s by at = below (λ c left. leaf_at m h c by (at - count_in by left)) (branch_at m s by at)

-- The bytes of the tree of height h at slot s parted at one leaf, of which left are the counts on its left and at is the index that was sought.
pub record PartedAt (m : List ℕ) (h s : ℕ) (by : Measure) (at leaf : ℕ) (left : TextSum) (before after : List ℕ) : Type 0 where
  pub whole : bytes_below m h s ≡ before ++ (text_of m leaf ++ after)
  pub is_leaf : is_leaf m leaf ≡ true
  -- three texts, whose counts add up
  pub valid-before : valid_utf8 before ≡ true
  pub valid-leaf : valid_utf8 (text_of m leaf) ≡ true
  pub valid-after : valid_utf8 after ≡ true
  pub seam-before : (cr_last before && lf_first (text_of m leaf ++ after)) ≡ false
  pub seam-after : (cr_last (text_of m leaf) && lf_first after) ≡ false
  pub counts : left ≡ sum_of (decode before)
  -- the index lies in this leaf: a search does not stop before it, and stops at it, unless it is the first or the last
  pub passed : (before ≡ [] → ⊥) → stops_at by at left ≡ false
  pub stopped : (after ≡ [] → ⊥) → stops_at by at (sum_of (decode (before ++ text_of m leaf))) ≡ true
