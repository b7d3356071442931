-- A node in its slot: whether there is one and of which kind, its text or children, their counts, and the memory with a node written.
use Rattle.std.specs.Prelude.{◌≡◌, Bool, not, ◌&&◌, ◌||◌, cond, List, [], ◌∷◌, ℕ, ◌+◌, ◌<◌, eqb, leb, length, take, get_or}
use Rattle.plain.specs.Utf8.{valid_utf8, decode}
use Rattle.plain.specs.Outcome.{past}
use Rattle.octets.specs.Over.{overlaid}
use Rattle.leaf_bytes.specs.Leaf.{leaf_of}
use Rattle.text_info.specs.Info.{info_of, zeros}
use Rattle.text_info.specs.declared.TextInfo.{TextInfo}
use Rattle.text_info.specs.declared.TextSum.{TextSum}
use Rattle.pool.specs.declared.Kid.{Kid}
use Rattle.pool.specs.Slot.{slot_start, kind_of, len_of, region_of, entries, no_kid, Fits, head_put, kid_put}
use Rattle.pool.specs.Calls.{outside}
use Rattle.node_children.specs.declared.NodeChildren.{NodeChildren}
use Rattle.child_search.specs.Sought.{sum_from}

-- a slot in the memory whose head says that it is a leaf, and one that is a list
unfoldable pub is_leaf : List ℕ → ℕ → Bool
is_leaf m s = not (outside m s) && (eqb (kind_of m s) 1 && leb (len_of m s) 512)

unfoldable pub is_list : List ℕ → ℕ → Bool
is_list m s = not (outside m s) && (eqb (kind_of m s) 2 && leb (len_of m s) 16)

-- the text of a leaf, and the children of a list
abbrev pub text_of : List ℕ → ℕ → List ℕ
text_of m s = leaf_of (region_of m s) (len_of m s)

abbrev pub children_of : List ℕ → ℕ → List Kid
children_of m s = take (len_of m s) (entries (region_of m s))

-- ── counts ──

-- a sum that the 32 bits of a child's counts cannot hold: no note is so long
abbrev pub too_wide : TextSum → Bool
too_wide s = past s.bytes 4294967295 || (past s.chars 4294967295 || (past s.utf16_surrogates 4294967295 || past s.line_breaks 4294967295))

abbrev pub narrowed : TextSum → TextInfo
narrowed s = record { bytes = s.bytes; chars = s.chars; utf16_surrogates = s.utf16_surrogates; line_breaks = s.line_breaks }

abbrev pub total_of : List Kid → TextSum
total_of ks = sum_from zeros ks

-- the counts of what lies below a node: of a leaf those of its text, of a list its children's, added up
unfoldable pub counts_of : List ℕ → ℕ → TextInfo
unfolding sum_from is_leaf
counts_of m s = cond (is_leaf m s) (info_of (decode (text_of m s))) (narrowed (total_of (children_of m s)))

-- 2: no node, or a list with counts that cannot be
unfoldable pub lost : List ℕ → ℕ → Bool
unfolding sum_from is_leaf is_list
lost m s = not (is_leaf m s || is_list m s) || (is_list m s && too_wide (total_of (children_of m s)))

-- 5: a leaf whose bytes are no text
unfoldable pub ill : List ℕ → ℕ → Bool
unfolding is_leaf
ill m s = is_leaf m s && not (valid_utf8 (text_of m s))

-- ── the memory with a node written ──

-- a leaf: the text at the front of the region, and the head; what lies behind the text is as it was
abbrev pub leaf_put : List ℕ → ℕ → List ℕ → List ℕ
leaf_put m s t = head_put (overlaid (slot_start s + 128) t m) s 1 (length t) 0

-- children as the entries from i on
unfoldable pub kids_put : List ℕ → ℕ → ℕ → List Kid → List ℕ
kids_put m s i [] = m
kids_put m s i (k ∷ ks) = kids_put (kid_put m s i k) s (i + 1) ks

-- a list: the head, and all sixteen entries
abbrev pub list_put : List ℕ → ℕ → NodeChildren → List ℕ
list_put m s c = kids_put (head_put m s 2 c.len 0) s 0 c.arr

-- sixteen entries whose numbers have 32 bits
pub record Fitting (ks : List Kid) : Type 0 where
  pub sixteen : length ks ≡ 16
  pub each : (i : ℕ) → i < 16 → Fits (get_or ks i no_kid)
